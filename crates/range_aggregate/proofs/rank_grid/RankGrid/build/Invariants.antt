-- The ranks before the last column are in their bands, and the corners of the columns so far have their counts.
use Rattle.std.proofs.Common.{◌≡◌, ◌+◌, ◌*◌, ◌<◌, ◌≤◌, ℕ, length, get_or, take}
use Rattle.range_aggregate.specs.Rows.{corner_count}
use Rattle.range_aggregate.proofs.Bands.{AreBands}
use Rattle.range_aggregate.proofs.rank_grid.RankGrid.build.Given as goal

abbrev pub invariant-loop-column : goal.invariant-loop-column
invariant-loop-column l = record {
  within : l.from ≤ length l.ranks;
  before : l.from ≤ l.column * 256;
  wide : length l.bands.items ≡ l.width;
  bands : AreBands (take l.from l.ranks) l.bands.items;
  long : length l.counts.items ≡ l.column * l.width;
  each : (column row : ℕ) → column < l.column → row < l.width → get_or l.counts.items (column * l.width + row) 0 ≡ corner_count l.ranks column row;
}
