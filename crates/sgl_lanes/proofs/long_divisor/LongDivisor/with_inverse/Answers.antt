-- The inverse is rounded up.
use Rattle.std.proofs.Common.{◌<◌, arith}
use Rattle.sgl_lanes.proofs.Divisions.{inverse_of}
use Rattle.sgl_lanes.proofs.long_divisor.LongDivisor.with_inverse.Goals as goal

pub returns-clause-divisor : goal.returns-clause-divisor
returns-clause-divisor c =
    let some : 0 < c.args.number = omega (arith, c.requires.from) in
    record {
      from = c.requires.from;
      below = c.requires.below;
      inverse = rw c.from.ensures (inverse_of 18446744073709551616 c.args.number (omega arith) some);
    }
