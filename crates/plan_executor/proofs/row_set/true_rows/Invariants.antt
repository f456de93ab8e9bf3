-- So many runs at the end stand first in the set, each row where its number is 1.
use Rattle.std.proofs.Common.{◌≡◌, ◌<◌, ◌+◌, ◌-◌, ◌*◌, ◌^◌, ℕ, pos}
use Rattle.std.specs.Ordering.{int_eq}
use Rattle.sgl_lanes.specs.Lanes.{has, lane_of}
use Rattle.plan_executor.proofs.row_set.true_rows.Given as goal

abbrev pub invariant-loop-done : goal.invariant-loop-done
invariant-loop-done l = record {
  small : l.rows < 2 ^ (8 * l.done);
  are : (k : ℕ) → k < 8 * l.done → has l.rows k ≡ int_eq (lane_of l.numbers (64 - 8 * l.done + k)) (pos 1);
}
