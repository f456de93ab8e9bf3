-- The product with the inverse is the quotient, where the size is short.
use Rattle.std.proofs.Common.{◌≡◌, ◌<◌, ◌%◌, ◌^◌, arith}
use Rattle.sgl_lanes.proofs.Divisions.{inverse_is, share_small, short_small}
use Rattle.sgl_lanes.proofs.divisor.Divisor.short_share.Goals as goal

pub returns-clause-quotient : goal.returns-clause-quotient
returns-clause-quotient c size =
    let divisor = c.requires.divisor in
    let own = c.args.self.now in
    let low : c.args.size % 4294967296 ≡ c.args.size = omega (arith, size) in
    rw (low, c.from.ensures) (inverse_is c.args.size own.number own.inverse (2 ^ own.shift) (omega (arith, divisor.from)) (short_small c.args.size own.number (2 ^ own.shift) size divisor.reach) divisor.inverse)

pub returns-clause-small : goal.returns-clause-small
returns-clause-small c =
    let divisor = c.requires.divisor in
    let own = c.args.self.now in
    let low : c.args.size % 4294967296 < 4294967296 = omega arith in
    let little : c.from.result < 4294967296 = omega (arith, c.from.ensures) in
    share_small (c.args.size % 4294967296) c.from.result (2 ^ own.shift) low little (omega (arith, divisor.from, divisor.reach))
