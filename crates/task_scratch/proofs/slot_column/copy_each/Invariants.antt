-- The numbers so far are copied.
use Rattle.std.proofs.Common.{◌≡◌, ◌<◌, ℕ, length}
use Rattle.sgl_lanes.specs.Lanes.{lane_of}
use Rattle.task_scratch.proofs.slot_column.copy_each.Given as goal

abbrev pub invariant-loop-lane : goal.invariant-loop-lane
invariant-loop-lane l = record {
  long : length l.into ≡ 64;
  done : (k : ℕ) → k < l.lane → lane_of l.into k ≡ lane_of l.numbers k;
}
