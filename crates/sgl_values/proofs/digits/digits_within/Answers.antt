use Rattle.std.proofs.Common.{arith}
use Rattle.sgl_values.proofs.WrittenDigits.{too_great}
use Rattle.sgl_values.proofs.digits.digits_within.Goals as goal

pub returns-in-None : goal.returns-in-None
returns-in-None c = too_great c.args.most c.loop-digit.value c.loop-digit.digit-index c.args.digits.now (omega arith) c.loop-digit.invariant.value c.in-None.ensures
