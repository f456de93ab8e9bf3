use Rattle.std.proofs.Common.{List, subst, sym}
use Rattle.nearest_tree.specs.declared.point.NearPoint.{NearPoint}
use Rattle.sgl_typed.specs.declared.script.Attr.{Attr}
use Rattle.row_groups.specs.Groups.{IsGroups}
use Rattle.row_groups.proofs.Listing.{listed-under, lists_made}
use Rattle.group_trees.specs.Points.{point_of, AreTrees}
use Rattle.group_trees.proofs.trees.GroupTrees.build.Goals as goal

pub returns-clause-held : goal.returns-clause-held
returns-clause-held g c =
    let groups = c.in_ok-groups.groups in
    let world = c.args.world.now.world in
    let lists = c.in_ok-trees.trees.items in
    let is = subst (λ (attrs : List Attr). IsGroups groups attrs world.rows) (sym c.in_ok-groups.ensures.by) c.in_ok-groups.ensures in
    let are = lists_made (point_of c.args.plane) world groups c.len.result lists c.len.ensures.value c.in_ok-trees.ensures in
    let P : List (List NearPoint) → Type 0 = λ lists. AreTrees record { plane = c.args.plane; groups = groups; lists = lists } world.rows in
    subst P (sym c.from_vec-trees.ensures) (listed-under (point_of c.args.plane) world groups lists is are)
