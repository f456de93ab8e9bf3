-- The set has the lanes so far whose number is 1, and no later one.
use Rattle.std.proofs.Common.{◌≡◌, ◌<◌, ◌≤◌, ℕ, pos, false}
use Rattle.std.specs.Ordering.{int_eq}
use Rattle.sgl_lanes.specs.Lanes.{has, lane_of}
use Rattle.tick_postprocess.proofs.lane_sets.true_lanes.Given as goal

abbrev pub invariant-loop-lane : goal.invariant-loop-lane
invariant-loop-lane l = record {
  done : (k : ℕ) → k < l.lane → has l.lanes k ≡ int_eq (lane_of l.numbers k) (pos 1);
  rest : (k : ℕ) → l.lane ≤ k → has l.lanes k ≡ false;
}
