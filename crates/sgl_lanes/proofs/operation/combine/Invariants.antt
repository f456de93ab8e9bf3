-- The lanes of the set so far have what the operation gives, where it gives a result in all of them.
use Rattle.std.proofs.Common.{◌≡◌, ◌<◌, ℕ, true, Ok}
use Rattle.sgl_lanes.specs.Lanes.{has, lane_of}
use Rattle.sgl_lanes.proofs.operation.combine.Given as goal

abbrev pub invariant-loop-lane : goal.invariant-loop-lane
invariant-loop-lane g l = l.exact ≡ true → (k : ℕ) → k < l.lane → has l.mask k ≡ true
    → goal.F-post g l.operation (g.L.Side.at l.left k) (g.R.Side.at l.right k) (Ok (lane_of l.out k))
