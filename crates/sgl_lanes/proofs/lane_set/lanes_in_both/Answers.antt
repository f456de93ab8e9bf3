-- The lanes of both sets, bit by bit.
use Rattle.sgl_lanes.proofs.LaneSets.{has_both}
use Rattle.sgl_lanes.proofs.lane_set.lanes_in_both.Goals as goal

pub returns : goal.returns
returns c k = has_both c.args.first c.args.second k
