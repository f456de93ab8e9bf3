-- Sums over rows of a world are small.
use Rattle.std.proofs.Common.{◌≡◌, ℕ, ℤ, pos, neg_ℤ, ◌+◌, ◌+ℤ◌, ◌*◌, ◌≤◌, ◌≤ℤ◌, Bool, true, false, cond, List, [], ◌∷◌, length, subst, arith}
use Rattle.std.specs.Prelude.{filter, All, unsigned_abs}
use Rattle.std.proofs.lemmas.Bool.{leb-true}
use Rattle.std.proofs.lemmas.Int.{ints}
use Rattle.std.proofs.lemmas.List.Elements.{All-head, All-tail}
use Rattle.sgl_values.specs.World.{Row, IsRow}
use Rattle.sgl_typed.specs.declared.script.Attr.{Attr}
use Rattle.sgl_typed.specs.Aggregate.{sum_of}
use Rattle.sgl_typed.specs.Value.{attribute}
use Rattle.test_boxes.proofs.Boxing.{attribute_in}

-- at most so many values of the language make this sum
pub record IsSmall (count : ℕ) (sum : ℤ) : Type 0 where
  pub low : neg_ℤ (pos (count * 1000000000000)) ≤ℤ sum
  pub high : sum ≤ℤ pos (count * 1000000000000)

with-value : (count : ℕ) (z sum : ℤ) → unsigned_abs z ≤ 1000000000000 → IsSmall count sum → IsSmall (count + 1) (z +ℤ sum)
with-value count z sum fits small =
    let low : neg_ℤ (pos (count * 1000000000000)) ≤ℤ sum = small.low in
    let high : sum ≤ℤ pos (count * 1000000000000) = small.high in
    record { low = omega (arith, ints, low, high, fits); high = omega (arith, ints, low, high, fits) }

without : (count : ℕ) (sum : ℤ) → IsSmall count sum → IsSmall (count + 1) sum
without count sum small =
    let low : neg_ℤ (pos (count * 1000000000000)) ≤ℤ sum = small.low in
    let high : sum ≤ℤ pos (count * 1000000000000) = small.high in
    record { low = omega (arith, ints, low, high); high = omega (arith, ints, low, high) }

one-row : (attr : Attr) (b : Bool) (row : Row) (kept : List Row) (count : ℕ) → unsigned_abs (attribute attr row) ≤ 1000000000000 → IsSmall count (sum_of attr kept) → IsSmall (count + 1) (sum_of attr (cond b (row ∷ kept) kept))
one-row attr true row kept count fits small = with-value count (attribute attr row) (sum_of attr kept) fits small
one-row attr false row kept count fits small = without count (sum_of attr kept) small

pub sum_small : (width : ℕ) (attr : Attr) (p : Row → Bool) (rows : List Row) → All (IsRow width) rows → IsSmall (length rows) (sum_of attr (filter p rows))
sum_small width attr p [] fit = record { low = omega (arith, ints); high = omega (arith, ints) }
sum_small width attr p (row ∷ rows) fit =
    let is : IsRow width row = All-head (IsRow width) row rows fit in
    let same : length rows + 1 ≡ length (row ∷ rows) = omega arith in
    let P : ℕ → Type 0 = λ n. IsSmall n (sum_of attr (filter p (row ∷ rows))) in
    subst P same (one-row attr (p row) row (filter p rows) (length rows) (leb-true _ _ (attribute_in width attr row is)) (sum_small width attr p rows (All-tail (IsRow width) row rows fit)))

-- 65,536 values at most
pub total_small : (count : ℕ) (sum : ℤ) → count ≤ 65536 → IsSmall count sum → unsigned_abs sum ≤ 65536000000000000
total_small count sum few small =
    let low : neg_ℤ (pos (count * 1000000000000)) ≤ℤ sum = small.low in
    let high : sum ≤ℤ pos (count * 1000000000000) = small.high in
    omega (arith, ints, low, high, few)
