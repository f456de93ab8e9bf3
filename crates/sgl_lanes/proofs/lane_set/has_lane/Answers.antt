-- The bit of the lane is read.
use Rattle.sgl_lanes.proofs.LaneSets.{has_is}
use Rattle.sgl_lanes.proofs.lane_set.has_lane.Goals as goal

pub returns : goal.returns
returns c = has_is c.args.mask c.args.lane
