-- Ranks among rows, their places, and the grid over both.
use Rattle.std.specs.Prelude.{◌≡◌, ℕ, ◌+◌, ◌-◌, ◌*◌, ◌<◌, ◌≤◌, nat_le, nat_lt, ◌&&◌, Bool, List, length, filter, sum, take, slice_index_or}
use Rattle.range_aggregate.specs.Edges.{IsNearest, edge_place}
use Rattle.range_aggregate.specs.declared.edge.TheConstants.{BREADTH}
use Rattle.range_aggregate.specs.declared.rank_grid.RankGrid.{RankGrid}
use Rattle.sgl_values.specs.declared.limit.TheConstants.{ROWS_MAX}

-- the rank is among the rows from the first to the last, both included
abbrev pub is_in_rows : ℕ → ℕ → ℕ → Bool
is_in_rows first last rank = nat_le first rank && nat_le rank last

-- the number of those that are
abbrev pub count_rows : ℕ → ℕ → List ℕ → ℕ
count_rows first last ranks = length (filter (is_in_rows first last) ranks)

-- the number of those that are less than one
abbrev pub count_under : ℕ → List ℕ → ℕ
count_under rank ranks = length (filter (λ other. nat_lt other rank) ranks)

-- each place has a rank of its own
pub record AreInverse (ranks places : List ℕ) : Type 0 where
  pub long : length places ≡ length ranks
  pub rank_within : (place : ℕ) → place < length ranks → slice_index_or ranks place 0 < length ranks
  pub place_within : (rank : ℕ) → rank < length ranks → slice_index_or places rank 0 < length ranks
  pub rank_is : (rank : ℕ) → rank < length ranks → slice_index_or ranks (slice_index_or places rank 0) 0 ≡ rank
  pub place_is : (place : ℕ) → place < length ranks → slice_index_or places (slice_index_or ranks place 0) 0 ≡ place

-- how many of the ranks that stand before an edge of columns are below an edge of rows
abbrev pub corner_count : List ℕ → ℕ → ℕ → ℕ
corner_count ranks column row = count_under (edge_place (length ranks) row) (take (edge_place (length ranks) column) ranks)

-- so many more ranks are counted to bands of rows: the first bands have those below an edge
pub record CountsMore (ranks before behind : List ℕ) : Type 0 where
  pub long : length behind ≡ length before
  pub each : (row : ℕ) → sum (take row behind) ≡ sum (take row before) + count_under (row * BREADTH) ranks

-- a list goes on with the sums of no number, of the first, of the first two, and so on, but for that of all
pub record GoesOnWithSums (numbers before behind : List ℕ) : Type 0 where
  pub long : length behind ≡ length before + length numbers
  pub kept : (k : ℕ) → k < length before → slice_index_or behind k 0 ≡ slice_index_or before k 0
  pub sums : (k : ℕ) → k < length numbers → slice_index_or behind (length before + k) 0 ≡ sum (take k numbers)

-- the grid over these ranks, up to the edge nearest to their end: its corners, column by column
pub record IsRankGrid (ranks : List ℕ) (grid : RankGrid) : Type 0 where
  pub some : 0 < grid.width
  pub last : IsNearest (length ranks) (grid.width - 1)
  pub full : length grid.counts.items ≡ grid.width * grid.width
  pub each : (column row : ℕ) → column < grid.width → row < grid.width → slice_index_or grid.counts.items (column * grid.width + row) 0 ≡ corner_count ranks column row

-- the ranks of an index, their places, and the grid over them
pub record IsRankIndex (ranks places : List ℕ) (grid : RankGrid) : Type 0 where
  pub few : length ranks ≤ ROWS_MAX
  pub inverse : AreInverse ranks places
  pub grid_is : IsRankGrid ranks grid
