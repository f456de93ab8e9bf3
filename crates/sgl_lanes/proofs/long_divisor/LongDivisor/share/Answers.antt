-- The product with the inverse is the quotient.
use Rattle.std.proofs.Common.{arith}
use Rattle.sgl_lanes.proofs.Divisions.{inverse_is, long_small}
use Rattle.sgl_lanes.proofs.long_divisor.LongDivisor.share.Goals as goal

pub returns : goal.returns
returns c =
    let divisor = c.requires.divisor in
    rw (c.from.ensures, c.from-2.ensures) (inverse_is c.args.size c.args.self.now.number c.args.self.now.inverse 18446744073709551616 (omega (arith, divisor.from)) (long_small c.args.size c.args.self.now.number c.requires.size divisor.below) divisor.inverse)
