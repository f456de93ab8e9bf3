-- Numbers that rise, and where those of a box stand among them.
use Rattle.std.proofs.Common.{◌≡◌, ℕ, ℤ, ◌≤◌, ◌≤ℤ◌, true, false, int_lt, int_le, List, length, get_or, map, subst, inl, inr, arith}
use Rattle.std.proofs.lemmas.Bool.{cases_lt}
use Rattle.std.proofs.lemmas.Int.{ints}
use Rattle.std.proofs.lemmas.List.{get_or-map}
use Rattle.std.specs.List.{AllWithin}
use Rattle.std.specs.List.Sorted.{IsPartitionPoint}
use Rattle.sgl_values.specs.Range.{is_between}
use Rattle.rank_table.specs.Ranks.{IsRising}
use Rattle.range_aggregate.specs.Spans.{IsSpan}
use Rattle.range_aggregate.specs.declared.point.Point.{Point}

-- whether a number lies between two others, by its side of each
pub between_below : (low high z : ℤ) → int_lt z low ≡ true → is_between low high z ≡ false
between_below low high z below = grind (arith, ints)

pub between_above : (low high z : ℤ) → int_le z high ≡ false → is_between low high z ≡ false
between_above low high z above = grind (arith, ints)

pub between_inside : (low high z : ℤ) → int_lt z low ≡ false → int_le z high ≡ true → is_between low high z ≡ true
between_inside low high z above below = grind (arith, ints)

not_both : (low high z : ℤ) → low ≤ℤ high → int_lt z low ≡ true → int_le z high ≡ false → ⊥
not_both low high z ordered below above = grind (arith, ints)

-- the bounds that two searches find are those of the span
pub IsSpan-found : (zs : List ℤ) (low high : ℤ) (from to : ℕ) → low ≤ℤ high → from ≤ length zs → to ≤ length zs
    → IsPartitionPoint (λ z. int_lt z low ≡ true) (λ z. int_lt z low ≡ false) zs from
    → IsPartitionPoint (λ z. int_le z high ≡ true) (λ z. int_le z high ≡ false) zs to
    → IsSpan zs low high record { from = from; to = to }
IsSpan-found zs low high from to ordered from_in to_in first last = record {
  ordered = elim (cases_lt to from) [
    | inl lt ↦ absurd (not_both low high (get_or zs to low) ordered (first.0 to low (omega arith) lt) (last.1 to low (omega arith) (omega arith)))
    | inr le ↦ le
  ];
  bound = to_in;
  before = λ k d at below. between_below low high _ (first.0 k d at below);
  within = λ k d at below. between_inside low high _ (first.1 k d at (omega arith)) (last.0 k d (omega arith) below);
  behind = λ k d at below. between_above low high _ (last.1 k d at below);
}

-- ---- the numbers of the elements of a list

-- the number y of each point rises
abbrev pub Rise : List Point → Type 0
Rise points = IsRising (map (λ point. point.y) points)

module _ {A : Type 0} (key : A → ℤ) where
  pub AllWithin-from_map : (P : ℤ → Type 0) (xs : List A) (low high : ℕ) → high ≤ length xs → AllWithin P (map key xs) low high → AllWithin (λ x. P (key x)) xs low high
  AllWithin-from_map P xs low high bound all k d at below =
      subst P (get_or-map key xs k d (key d) (omega (arith, bound, below))) (all k (key d) at below)
