-- What is kept for aggregates over the rows in a circle.
use Rattle.std.specs.Prelude.{◌≡◌, true, map, Some}
use Rattle.std.specs.List.{find}
use Rattle.std.specs.Option.{option_map}
use Rattle.sgl_values.specs.World.{World}
use Rattle.sgl_typed.specs.declared.script.Attr.{Attr}
use Rattle.sgl_typed.specs.declared.script.TAgg.{TAgg}
use Rattle.sgl_typed.specs.declared.script.TTest.{TTest}
use Rattle.sgl_typed.specs.declared.script.TTest.TheVariants.{Compare, Within}
use Rattle.battle_algebra.specs.Ways.{attr_of, few_groups, is_circle}
use Rattle.group_boxes.specs.Ranged.{is_total}
use Rattle.row_groups.specs.Groups.{IsGroups}
use Rattle.row_groups.specs.Sorted.{IsSorting}
use Rattle.test_boxes.specs.Readings.{grouping}
use Rattle.test_boxes.specs.declared.reading.Reading.TheVariants.{Away}
use Rattle.index_set.specs.declared.round.Round.{Round}

-- the two attributes that give the centre of a circle
abbrev pub centre_of : TTest → Attr × Attr
centre_of (Compare attr op right) = (attr, attr)
centre_of (Within x y radius) = (x, y)

-- the aggregate counts or adds up, and these are the rows of the groups by its equal tests, by the attributes of its circle
pub record IsRound (world : World) (round : Round) (agg : TAgg) : Type 0 where
  pub total : is_total agg.kind ≡ true
  pub few : few_groups agg.tests ≡ true
  pub groups : IsGroups round.groups (map attr_of (grouping Away agg.tests)) world.rows
  pub centre : option_map centre_of (find is_circle agg.tests) ≡ Some (round.x, round.y)
  pub sorted : IsSorting round.sorted round.groups (Some round.x) (Some round.y) world
