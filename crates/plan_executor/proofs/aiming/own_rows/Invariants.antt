-- The rows so far are those of the task.
use Rattle.std.proofs.Common.{◌≡◌, ◌<◌, ◌+◌, ℕ, length}
use Rattle.plan_executor.specs.Clauses.{target_of}
use Rattle.plan_executor.proofs.aiming.own_rows.Given as goal

abbrev pub invariant-loop-row : goal.invariant-loop-row
invariant-loop-row l = record {
  long : length l.rows ≡ 64;
  done : (k : ℕ) → k < l.row → l.first + k < 4294967296 → target_of l.rows k ≡ l.first + k;
}
