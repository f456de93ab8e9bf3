-- Lists of points a group hold the points of all rows under their keys.
use Rattle.std.proofs.Common.{List, length}
use Rattle.sgl_values.specs.World.{World}
use Rattle.range_aggregate.specs.declared.point.Point.{Point}
use Rattle.row_groups.specs.Groups.{Grouping, IsGroups}
use Rattle.row_groups.specs.Listed.{AreListed}
use Rattle.row_groups.proofs.Listing.{listed-in, listed-under}
use Rattle.group_boxes.specs.declared.axes.Axes.{Axes}
use Rattle.group_boxes.specs.Points.{point_of, IsBoxes}

-- under each key the points of the rows with that key, and each row in one group
pub boxes_held : (axes : Axes) (world : World) (groups : Grouping) (lists : List (List Point)) → IsGroups groups groups.attrs world.rows
    → AreListed (point_of axes) world groups (length groups.lists) lists → IsBoxes groups record { axes = axes; lists = lists } world.rows
boxes_held axes world groups lists is are = record {
  held = listed-under (point_of axes) world groups lists is are;
  each = listed-in (point_of axes) world groups lists is are;
  whole = is.whole;
  inside = is.inside;
}
