-- The lesser of two pairs: their order is total, and equals are one.
use Rattle.std.proofs.Common.{◌≡◌, Bool, false, cond, ap}
use Rattle.std.specs.Prelude.{Option, Some}
use Rattle.std.specs.Ordering.{is_gt}
use Rattle.sgl_values.specs.Least.{lesser_of}
use Rattle.sgl_values.proofs.LeastLaws.{LesserLaws, keyed_laws}
use Rattle.extreme_sweep.specs.declared.pair.Pair.{Pair}
use Rattle.extreme_sweep.specs.Pairs.{pair_cmp}

abbrev pub lesser : Option Pair → Option Pair → Option Pair
lesser = lesser_of pair_cmp

pub pair_laws : LesserLaws pair_cmp
pair_laws = keyed_laws (λ pair. pair.value) (λ pair. pair.key) (λ a b value key i. record { value = value i; key = key i })

-- where the second is not below the first, the first is the lesser
pub lesser-first : (p q : Pair) → is_gt (pair_cmp p q) ≡ false → lesser (Some p) (Some q) ≡ Some p
lesser-first p q is = ap (λ (g : Bool). cond g (Some q) (Some p)) is
