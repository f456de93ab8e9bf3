-- What an index holds.
use Rattle.std.specs.Prelude.{◌≡◌, ℕ, ℤ, ◌<◌, ◌≤◌, List, Option, length, map, All}
use Rattle.rank_table.specs.Orders.{number_at}
use Rattle.rank_table.specs.Ranks.{IsRising}
use Rattle.range_aggregate.specs.Levels.{WeighsAs}
use Rattle.range_aggregate.specs.declared.build.WeightTree.{WeightTree}
use Rattle.range_aggregate.specs.declared.point.Point.{Point}
use Rattle.sgl_values.specs.declared.limit.TheConstants.{ROWS_MAX}

-- the points of an index by rising x, the numbers x and y in order, for each point the rank at which its y stands, and the tree of weights
pub record IsIndexed (points : List Point) (xs ys : List ℤ) (ranks : List ℕ) (weights : Option WeightTree) : Type 0 where
  pub few : length points ≤ ROWS_MAX
  pub xs_are : xs ≡ map (λ point. point.x) points
  pub rising : IsRising xs
  pub ys_many : length ys ≡ length points
  pub ys_rising : IsRising ys
  pub within : All (λ rank. rank < length ys) ranks
  pub ranks_are : map (number_at ys) ranks ≡ map (λ point. point.y) points
  pub weights_are : WeighsAs points weights
