-- The places before this one tell whether the numbers of their rows are 1.
use Rattle.std.proofs.Common.{◌≡◌, ◌<◌, ◌+◌, ℕ, length, pos, slice_index_or}
use Rattle.std.specs.Ordering.{int_eq}
use mir.Val.{bool_byte}
use Rattle.sgl_lanes.specs.Lanes.{lane_of}
use Rattle.plan_executor.proofs.row_set.true_run.Given as goal

abbrev pub invariant-loop-place : goal.invariant-loop-place
invariant-loop-place l = record {
  long : length l.run ≡ 8;
  are : (k : ℕ) → k < l.place → slice_index_or l.run k 0 ≡ bool_byte (int_eq (lane_of l.numbers (l.first + k)) (pos 1));
}
