use Rattle.std.proofs.Common.{◌≡◌, ℕ, ◌+◌, ◌-◌, ◌<◌, ◌≤◌, false, get_or, length}
use Rattle.row_groups.specs.Strips.{is_held}
use Rattle.row_groups.proofs.strip.skip.Given as goal

abbrev pub invariant-loop-place : goal.invariant-loop-place
invariant-loop-place l = record {
  within : l.place ≤ length l.ranks;
  past : (k : ℕ) → k < l.place → is_held l.low (l.last + 1) (get_or l.ranks k 0) ≡ false;
}

abbrev pub decreases-loop-place : goal.decreases-loop-place
decreases-loop-place l = length l.initial.ranks - l.place
