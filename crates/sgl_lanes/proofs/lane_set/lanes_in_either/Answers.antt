-- The lanes of one of the sets, bit by bit.
use Rattle.sgl_lanes.proofs.LaneSets.{has_either}
use Rattle.sgl_lanes.proofs.lane_set.lanes_in_either.Goals as goal

pub returns : goal.returns
returns c k = has_either c.args.first c.args.second k
