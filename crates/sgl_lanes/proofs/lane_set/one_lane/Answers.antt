-- The one bit of the lane.
use Rattle.sgl_lanes.proofs.LaneSets.{has_one}
use Rattle.sgl_lanes.proofs.lane_set.one_lane.Goals as goal

pub returns : goal.returns
returns c k = has_one c.args.lane k c.requires
