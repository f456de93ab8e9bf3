-- The lanes so far hold what was read.
use Rattle.std.proofs.Common.{◌≡◌, ◌<◌, ℕ, true}
use Rattle.sgl_lanes.specs.Lanes.{has, lane_of}
use Rattle.sgl_lanes.proofs.leaf.read_each.Given as goal

abbrev pub invariant-loop-lane : goal.invariant-loop-lane
invariant-loop-lane g l = (k : ℕ) → k < l.lane → has l.mask k ≡ true → goal.F-post g l.read k (lane_of l.out k)
