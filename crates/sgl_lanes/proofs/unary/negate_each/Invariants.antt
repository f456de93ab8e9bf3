-- The lanes so far have the negatives, the others what they had.
use Rattle.std.proofs.Common.{◌≡◌, ◌<◌, ◌≤◌, ℕ, neg_ℤ}
use Rattle.sgl_lanes.specs.Lanes.{lane_of}
use Rattle.sgl_lanes.proofs.unary.negate_each.Given as goal

abbrev pub invariant-loop-lane : goal.invariant-loop-lane
invariant-loop-lane l = record {
  done : (k : ℕ) → k < l.lane → lane_of l.out k ≡ neg_ℤ (lane_of l.initial.out k);
  rest : (k : ℕ) → l.lane ≤ k → lane_of l.out k ≡ lane_of l.initial.out k;
}
