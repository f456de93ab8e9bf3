-- The lanes so far are in the set.
use Rattle.std.proofs.Common.{◌≡◌, ◌<◌, ◌≤◌, ◌==◌, ℕ, true}
use Rattle.std.specs.Int.{bit_at}
use Rattle.env_table.proofs.builder.run_end.Given as goal

abbrev pub invariant-loop-at : goal.invariant-loop-at
invariant-loop-at l = (k : ℕ) → l.lane ≤ k → k < l.at → (bit_at l.lanes k == 1) ≡ true
