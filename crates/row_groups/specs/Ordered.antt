-- The rows of all groups in order.
use Rattle.std.specs.Prelude.{All, Option}
use Rattle.sgl_values.specs.World.{World}
use Rattle.sgl_typed.specs.declared.script.Attr.{Attr}
use Rattle.row_groups.specs.declared.ranked.Ordered.{Ordered}
use Rattle.row_groups.specs.Ends.{AreEnds}
use Rattle.row_groups.specs.Groups.{Grouping}
use Rattle.row_groups.specs.Ranked.{AreInOrder, IsAcross}
use Rattle.row_groups.specs.Sorted.{IsSorting}

-- the rows of these groups, in order, and where those between two values begin and end
pub record AreOrdered (groups : Grouping) (axis across : Option Attr) (world : World) (ordered : Ordered) : Type 0 where
  pub held : IsSorting ordered.ranked.items groups axis across world
  pub each : All (IsAcross across world) ordered.ranked.items
  pub rising : AreInOrder ordered.ranked.items
  pub ends : AreEnds ordered.ends ordered.ranked.items
