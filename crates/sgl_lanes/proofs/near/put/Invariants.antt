-- Of the numbers so far the operation has its result, where none of all of them reaches far, and the lanes so far have what it
-- makes.
use Rattle.std.proofs.Common.{◌≡◌, ◌<◌, ℕ}
use Rattle.sgl_lanes.specs.Lanes.{lane_of}
use Rattle.sgl_lanes.proofs.near.put.Given as goal

abbrev pub invariant-loop-lane : goal.invariant-loop-lane
invariant-loop-lane g l = record {
  takes : l.reach < g.O.Operation.end l.operation → (k : ℕ) → k < l.lane → g.O.Operation.takes l.operation (g.L.Side.at l.left k) (g.R.Side.at l.right k);
  made : (k : ℕ) → k < l.lane → g.O.Operation.takes l.operation (g.L.Side.at l.left k) (g.R.Side.at l.right k)
      → lane_of l.out k ≡ g.O.Operation.made l.operation (g.L.Side.at l.left k) (g.R.Side.at l.right k);
}
