-- The lanes so far hold what was read.
use Rattle.std.proofs.Common.{◌≡◌, ◌<◌, ℕ}
use Rattle.sgl_lanes.specs.Lanes.{lane_of}
use Rattle.sgl_lanes.proofs.leaf.fill.Given as goal

abbrev pub invariant-loop-lane : goal.invariant-loop-lane
invariant-loop-lane l = (k : ℕ) → k < l.lane → lane_of l.out k ≡ l.number
