-- A height below twice the end makes a product below 2^31, of which nothing is lost.
use Rattle.std.proofs.Common.{◌≡◌, ◌<◌, ◌*◌, ◌%◌, arith}
use Rattle.std.proofs.Math.Nat.{mod-eq_of_lt}
use Rattle.sgl_lanes.proofs.Factors.{height_small}
use Rattle.sgl_lanes.proofs.factor.Factor.times.Goals as goal

pub returns-clause-product : goal.returns-clause-product
returns-clause-product c below =
    let factor = c.requires.factor in
    let height = c.args.height in
    let number = c.args.self.now.number in
    let small : height * number < 2147483648 = height_small height c.args.self.now.end number factor.from below (omega (arith, factor.product, factor.small)) in
    let whole : height * number % 18446744073709551616 ≡ height * number = mod-eq_of_lt (omega (arith, small)) in
    rw (c.from.ensures, whole) (mod-eq_of_lt small)
