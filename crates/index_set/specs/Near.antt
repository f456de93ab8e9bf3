-- The trees of aggregates that ask for the nearest row.
use Rattle.std.specs.Prelude.{◌≡◌, true, List}
use Rattle.sgl_values.specs.World.{Row}
use Rattle.sgl_values.specs.declared.operator.FoldKind.TheVariants.{Nearest}
use Rattle.sgl_typed.specs.declared.script.TAgg.{TAgg}
use Rattle.battle_algebra.specs.Ways.{few_groups, is_unbounded}
use Rattle.group_trees.specs.Nearby.{AreTreesOf}
use Rattle.group_trees.specs.Points.{Planted}

-- the aggregate asks for the nearest row in a way that trees answer, and these are its own
pub record IsNearest (rows : List Row) (trees : Planted) (agg : TAgg) : Type 0 where
  pub nearest : agg.kind ≡ Nearest
  pub few : few_groups agg.tests ≡ true
  pub unbounded : is_unbounded agg.tests ≡ true
  pub held : AreTreesOf trees agg rows
