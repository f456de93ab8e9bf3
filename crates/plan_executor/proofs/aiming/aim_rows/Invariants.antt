-- The rows so far are aimed, the others are not.
use Rattle.std.proofs.Common.{◌≡◌, ◌<◌, ◌≤◌, ℕ, true, false}
use Rattle.sgl_lanes.specs.Lanes.{has, lane_of}
use Rattle.plan_executor.specs.Clauses.{AimsBy}
use Rattle.plan_executor.proofs.aiming.aim_rows.Given as goal

abbrev pub invariant-loop-row : goal.invariant-loop-row
invariant-loop-row l = record {
  part : (k : ℕ) → has l.aims.aimed k ≡ true → has l.mask k ≡ true;
  done : (k : ℕ) → k < l.row → has l.mask k ≡ true → AimsBy l.run.tick.world.now.world (lane_of l.keys k) k l.aims;
  rest : (k : ℕ) → l.row ≤ k → has l.aims.aimed k ≡ false;
}
