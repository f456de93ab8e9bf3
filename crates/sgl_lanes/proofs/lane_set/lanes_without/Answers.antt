-- The lanes that the other set has not, bit by bit.
use Rattle.std.proofs.Common.{◌<◌, arith}
use Rattle.sgl_lanes.proofs.LaneSets.{has_without}
use Rattle.sgl_lanes.proofs.lane_set.lanes_without.Goals as goal

pub returns : goal.returns
returns c k =
    let small : c.args.set < 18446744073709551616 = omega arith in
    let little : c.args.other < 18446744073709551616 = omega arith in
    has_without c.args.set c.args.other k small little
