-- The sum of an attribute over the rows that pass.
use Rattle.std.proofs.Common.{◌≡◌, ℕ, ℤ, pos, ◌+ℤ◌, ◌+◌, ◌<◌, Bool, true, false, cond, List, [], ◌∷◌, ◌++◌, length, take, get_or, refl, ap, sym, ◌∙◌, arith}
use Rattle.std.specs.List.{filter}
use Rattle.std.proofs.lemmas.Int.{ints}
use Rattle.std.proofs.lemmas.List.Elements.{filter_more}
use Rattle.sgl_values.specs.World.{Row}
use Rattle.sgl_typed.specs.declared.script.Attr.{Attr}
use Rattle.sgl_typed.specs.Aggregate.{sum_of}
use Rattle.sgl_typed.specs.Value.{attribute}

sum-append : (attr : Attr) (xs ys : List Row) → sum_of attr (xs ++ ys) ≡ sum_of attr xs +ℤ sum_of attr ys
sum-append attr [] ys = omega (arith, ints)
sum-append attr (x ∷ xs) ys = omega (arith, ints, sum-append attr xs ys)

sum-one : (attr : Attr) (b : Bool) (row : Row) → sum_of attr (cond b (row ∷ []) []) ≡ cond b (attribute attr row) (pos 0)
sum-one attr true row = omega (arith, ints)
sum-one attr false row = refl

pub sum-filter_more : (attr : Attr) (p : Row → Bool) (rows : List Row) (i : ℕ) (d : Row) → i < length rows
    → sum_of attr (filter p (take (i + 1) rows)) ≡ sum_of attr (filter p (take i rows)) +ℤ cond (p (get_or rows i d)) (attribute attr (get_or rows i d)) (pos 0)
sum-filter_more attr p rows i d h =
    ap (sum_of attr) (filter_more p rows i d h)
    ∙ sum-append attr (filter p (take i rows)) (cond (p (get_or rows i d)) (get_or rows i d ∷ []) [])
    ∙ ap (λ z. sum_of attr (filter p (take i rows)) +ℤ z) (sum-one attr (p (get_or rows i d)) (get_or rows i d))

-- the next row passes
pub with_row : (attr : Attr) (p : Row → Bool) (rows : List Row) (i : ℕ) (d : Row) (sum next x : ℤ) → i < length rows → true ≡ p (get_or rows i d)
    → sum ≡ sum_of attr (filter p (take i rows)) → x ≡ attribute attr (get_or rows i d) → next ≡ sum +ℤ x
    → next ≡ sum_of attr (filter p (take (i + 1) rows))
with_row attr p rows i d sum next x lt passes before is step =
    step ∙ ap (λ z. z +ℤ x) before ∙ ap (λ z. sum_of attr (filter p (take i rows)) +ℤ z) (is ∙ ap (λ b. cond b (attribute attr (get_or rows i d)) (pos 0)) passes)
    ∙ sym (sum-filter_more attr p rows i d lt)

-- it does not
pub without_row : (attr : Attr) (p : Row → Bool) (rows : List Row) (i : ℕ) (d : Row) (sum : ℤ) → i < length rows → false ≡ p (get_or rows i d)
    → sum ≡ sum_of attr (filter p (take i rows)) → sum ≡ sum_of attr (filter p (take (i + 1) rows))
without_row attr p rows i d sum lt passes before =
    before ∙ same (sum_of attr (filter p (take i rows))) ∙ ap (λ b. sum_of attr (filter p (take i rows)) +ℤ cond b (attribute attr (get_or rows i d)) (pos 0)) passes
    ∙ sym (sum-filter_more attr p rows i d lt)
  where
    same : (z : ℤ) → z ≡ z +ℤ pos 0
    same z = omega (arith, ints)
