use Rattle.std.proofs.Common.{List, subst, sym}
use Rattle.range_aggregate.specs.declared.point.Point.{Point}
use Rattle.row_groups.proofs.Listing.{lists_made}
use Rattle.group_boxes.specs.Points.{point_of, IsBoxes}
use Rattle.group_boxes.proofs.Holding.{boxes_held}
use Rattle.group_boxes.proofs.boxes.Boxes.build.Goals as goal

pub returns-clause-held : goal.returns-clause-held
returns-clause-held g c =
    let groups = c.args.groups.now in
    let world = c.args.world.now.world in
    let lists = c.in_ok-indexes.indexes.items in
    let are = lists_made (point_of c.args.axes) world groups c.len-2.result lists c.len-2.ensures.value c.in_ok-indexes.ensures in
    let P : List (List Point) → Type 0 = λ lists. IsBoxes groups record { axes = c.args.axes; lists = lists } world.rows in
    subst P (sym c.from_vec-indexes.ensures) (boxes_held c.args.axes world groups lists c.requires are)
