-- Sets of rows of which nothing is left.
use Rattle.std.proofs.Common.{◌≡◌, ℕ, Bool, true, false, not, ◌&&◌, ap, sym, ◌∙◌}
use Rattle.sgl_lanes.specs.Lanes.{has}
use Rattle.sgl_lanes.proofs.LaneSets.{has_zero}

second_of_both : (a b : Bool) → (a && b) ≡ false → a ≡ true → b ≡ false
second_of_both true b none is = none
second_of_both false b none is = absurd (cc)

second_without : (a b : Bool) → (a && not b) ≡ false → a ≡ true → b ≡ true
second_without true true none is = is
second_without true false none is = absurd (cc)
second_without false b none is = absurd (cc)

empty : (set k : ℕ) → set ≡ 0 → has set k ≡ false
empty set k none = ap (λ s. has s k) none ∙ has_zero k

-- where no row is in both sets, a row of the one is none of the other
pub none_in_both : (both mask other k : ℕ) → both ≡ 0 → has both k ≡ (has mask k && has other k) → has mask k ≡ true → has other k ≡ false
none_in_both both mask other k none is inside = second_of_both (has mask k) (has other k) (sym is ∙ empty both k none) inside

-- where no row of the one is outside of the other, a row of the one is one of the other
pub all_in_other : (rest mask other k : ℕ) → rest ≡ 0 → has rest k ≡ (has mask k && not (has other k))
    → has mask k ≡ true → has other k ≡ true
all_in_other rest mask other k none is inside = second_without (has mask k) (has other k) (sym is ∙ empty rest k none) inside
