-- The levels of the tree of weights.
use Rattle.std.specs.Prelude.{◌≡◌, ℕ, ℤ, ◌+◌, ◌^◌, ◌≤◌, ◌<◌, ◌≤ℤ◌, pos, negsuc, List, length, map, filter, take, slice_range, slice_index_or, Option, MatchOption}
use Rattle.std.specs.List.{All}
use Rattle.sgl_values.specs.Range.{is_between}
use Rattle.rank_table.specs.Ranks.{IsRising}
use Rattle.range_aggregate.specs.Blocks.{EachBlock, PermutesBlocks}
use Rattle.range_aggregate.specs.Boxes.{weight_of}
use Rattle.range_aggregate.specs.declared.build.WeightTree.{WeightTree}
use Rattle.range_aggregate.specs.declared.point.Point.{Point}
use Rattle.range_aggregate.specs.declared.level.Level.{Level}

-- in each block y rises
abbrev pub BlocksRise : ℕ → List Point → Type 0
BlocksRise = EachBlock (λ points. IsRising (map (λ point. point.y) points))

-- the sums of the weights of no point, of the first, of the first two, and so on
pub record AreRunningSums (points : List Point) (sums : List ℤ) : Type 0 where
  pub long : length sums ≡ length points + 1
  pub each : (k : ℕ) (d : ℤ) → k ≤ length points → slice_index_or sums k d ≡ weight_of (take k points)

-- the level keeps these points in their order
pub record Keeps (size : ℕ) (points : List Point) (level : Level) : Type 0 where
  pub size_is : level.size ≡ size
  pub ys : level.ys.items ≡ map (λ point. point.y) points
  pub sums : AreRunningSums points level.sums.items

-- the level of these points: it keeps the points of each block by rising y
pub record IsLevel (size : ℕ) (points : List Point) (level : Level) : Type 0 where
  pub order : List Point
  pub same : PermutesBlocks size points order
  pub rising : BlocksRise size order
  pub kept : Keeps size order level

-- the levels of these points: the blocks of each are twice as large as those of the one before, up to the last that has any
pub record AreLevels (points : List Point) (levels : List Level) : Type 0 where
  pub few : length levels ≤ 17
  pub enough : length points < 2 ^ length levels
  pub each : (k : ℕ) (d : Level) → k < length levels → IsLevel (2 ^ k) points (slice_index_or levels k d)

-- no point has weight
abbrev pub AreWeightless : List Point → Type 0
AreWeightless points = All (λ point. point.weight ≡ pos 0) points

-- the tree of points with weights, or none, where no point has weight
abbrev pub WeighsAs : List Point → Option WeightTree → Type 0
WeighsAs points tree = MatchOption tree (AreWeightless points) (λ tree. AreLevels points tree.levels.items)

-- the level has a block that begins at this place
pub record HasBlock (start : ℕ) (level : Level) : Type 0 where
  pub within : start + level.size ≤ length level.ys.items
  pub full : length level.sums.items ≡ length level.ys.items + 1
  pub rising : IsRising (slice_range level.ys.items start (start + level.size))

-- the points with y from the low number to the high one
abbrev pub strip : ℤ → ℤ → List Point → List Point
strip y1 y2 points = filter (λ point. is_between y1 y2 point.y) points

-- a weight of one block at most, so that those of all levels can be added
pub record IsSmall (sum : ℤ) : Type 0 where
  pub low : negsuc 18446744073709551615 ≤ℤ sum
  pub high : sum ≤ℤ pos 18446744073709551615
