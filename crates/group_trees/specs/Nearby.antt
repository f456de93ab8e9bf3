-- The nearest of rows that pass tests, from trees.
use Rattle.std.specs.Prelude.{◌≡◌, ℤ, pos, List, map, Option, None, Some}
use Rattle.sgl_values.specs.World.{Row}
use Rattle.sgl_values.specs.declared.fault.Val.{Val}
use Rattle.sgl_values.specs.declared.fault.Val.TheVariants.{N}
use Rattle.sgl_typed.specs.declared.script.TAgg.{TAgg}
use Rattle.battle_algebra.specs.Ways.{attr_of}
use Rattle.nearest_tree.specs.declared.near.Near.{Near}
use Rattle.test_boxes.specs.declared.reading.Reading.TheVariants.{Away}
use Rattle.test_boxes.specs.Others.{other_of}
use Rattle.test_boxes.specs.Readings.{grouping}
use Rattle.group_trees.specs.declared.plane.Plane.{Plane}
use Rattle.group_trees.specs.Points.{AreTrees, Planted}

-- the two attributes of the fold, and that of the unequal test
abbrev pub plane_of : TAgg → Plane
plane_of agg = record { x = agg.attr; y = agg.second; apart = other_of agg.tests }

-- trees of the plane in which an aggregate asks, over the groups by the values of its equal tests
pub record AreTreesOf (trees : Planted) (agg : TAgg) (rows : List Row) : Type 0 where
  pub by : trees.groups.attrs ≡ map attr_of (grouping Away agg.tests)
  pub plane : trees.plane ≡ plane_of agg
  pub held : AreTrees trees rows

-- the key of what is near, or what stands behind `else`
abbrev pub key_or : ℤ → Option Near → Val
key_or otherwise None = N otherwise
key_or otherwise (Some near) = N (pos near.key)
