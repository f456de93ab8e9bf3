-- The lanes so far have the contraries, the others what they had.
use Rattle.std.proofs.Common.{◌≡◌, ◌<◌, ◌≤◌, ℕ, pos}
use Rattle.std.specs.Ordering.{int_eq}
use Rattle.sgl_lanes.specs.Lanes.{bit, lane_of}
use Rattle.sgl_lanes.proofs.unary.invert_each.Given as goal

abbrev pub invariant-loop-lane : goal.invariant-loop-lane
invariant-loop-lane l = record {
  done : (k : ℕ) → k < l.lane → lane_of l.out k ≡ bit (int_eq (lane_of l.initial.out k) (pos 0));
  rest : (k : ℕ) → l.lane ≤ k → lane_of l.out k ≡ lane_of l.initial.out k;
}
