-- Tests of whole numbers.
use Rattle.std.proofs.Common.{◌≡◌, ℤ, true, false, not, arith}
use Rattle.std.specs.Prelude.{int_le, int_lt}
use Rattle.std.proofs.lemmas.Int.{ints}
use Rattle.sgl_values.specs.Range.{is_between}

pub le-not-lt : (a b : ℤ) → int_le a b ≡ not (int_lt b a)
le-not-lt a b = grind (arith, ints)

pub between-reversed : (low high z : ℤ) → int_lt high low ≡ true → is_between low high z ≡ false
between-reversed low high z reversed = grind (arith, ints)
