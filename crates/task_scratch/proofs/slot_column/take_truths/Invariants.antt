-- The lanes so far hold the truths of the rows.
use Rattle.std.proofs.Common.{◌≡◌, ◌<◌, ℕ, pos}
use Rattle.std.specs.Ordering.{int_eq}
use Rattle.sgl_lanes.specs.Lanes.{bit, lane_of}
use Rattle.task_scratch.proofs.slot_column.take_truths.Given as goal

abbrev pub invariant-loop-row : goal.invariant-loop-row
invariant-loop-row l = (k : ℕ) → k < l.row → lane_of l.out k ≡ bit (int_eq (lane_of l.numbers k) (pos 1))
