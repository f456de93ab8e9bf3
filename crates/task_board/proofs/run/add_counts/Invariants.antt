use Rattle.std.proofs.Common.{◌≡◌, ℕ, ◌+◌, ◌<◌, ◌≤◌, length}
use Rattle.task_scratch.specs.Job.{capped}
use Rattle.task_scratch.specs.Scratch.{reach_at}
use Rattle.task_board.proofs.run.add_counts.Given as goal

abbrev pub invariant-loop-node : goal.invariant-loop-node
invariant-loop-node l = record {
  sized : length l.counts.items ≡ length l.initial.counts.items;
  behind : (k : ℕ) → k < l.node → reach_at l.counts.items k ≡ capped (reach_at l.initial.counts.items k + reach_at l.more k);
  ahead : (k : ℕ) → l.node ≤ k → reach_at l.counts.items k ≡ reach_at l.initial.counts.items k;
}
