-- The least of a list by an order.
use Rattle.std.specs.Prelude.{List, [], ◌∷◌, Option, Some, None, if◌then◌else◌}
use Rattle.std.specs.Ordering.{is_gt}
use Rattle.std.specs.declared.cmp.Ordering.{Ordering}

-- the lesser of two that may be there, and of equals the first
abbrev pub lesser_of : {A : Type 0} → (A → A → Ordering) → Option A → Option A → Option A
lesser_of cmp None y = y
lesser_of cmp (Some x) None = Some x
lesser_of cmp (Some x) (Some y) = if is_gt (cmp x y) then Some y else Some x

-- the least, and of equals the first
abbrev pub least_of : {A : Type 0} → (A → A → Ordering) → List A → Option A
least_of cmp [] = None
least_of cmp (x ∷ xs) = lesser_of cmp (Some x) (least_of cmp xs)
