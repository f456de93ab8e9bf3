-- The places so far have their ranks.
use Rattle.std.proofs.Common.{◌≡◌, ◌<◌, ℕ, length, get_or}
use Rattle.range_aggregate.proofs.heights.ranks_of.Given as goal

abbrev pub invariant-loop-number : goal.invariant-loop-number
invariant-loop-number l = record {
  long : length l.ranks.items ≡ length l.places;
  each : (k : ℕ) → k < l.number → get_or l.ranks.items (get_or l.places k 0) 0 ≡ k;
}
