-- The sums of the first bands so far stand behind.
use Rattle.std.proofs.Common.{◌≡◌, ◌+◌, ◌<◌, ℕ, length, get_or, take}
use Rattle.std.specs.List.{sum}
use Rattle.range_aggregate.proofs.rank_grid.push_sums.Given as goal

abbrev pub invariant-loop-band : goal.invariant-loop-band
invariant-loop-band l = record {
  long : length l.counts.items ≡ length l.initial.counts.items + l.band-index;
  kept : (k : ℕ) → k < length l.initial.counts.items → get_or l.counts.items k 0 ≡ get_or l.initial.counts.items k 0;
  sums : (k : ℕ) → k < l.band-index → get_or l.counts.items (length l.initial.counts.items + k) 0 ≡ sum (take k l.bands);
  last : l.sum ≡ sum (take l.band-index l.bands);
}
