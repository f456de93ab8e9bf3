use Rattle.std.proofs.Common.{◌≡◌, [], subst}
use Rattle.std.specs.Prelude.{MatchOption, slice_index_or}
use Rattle.group_trees.specs.Points.{Planted}
use Rattle.row_groups.proofs.Listing.{found_list}
use Rattle.group_trees.proofs.trees.GroupTrees.tree_of.Goals as goal

pub returns : goal.returns
returns c =
    let group = c.args.group in
    let P : Planted → Type 0 = λ trees. MatchOption c.get.result (slice_index_or trees.lists group [] ≡ []) (λ tree. tree.now ≡ slice_index_or trees.lists group []) in
    subst P c.self.view_is (found_list c.self.inside.trees group c.get.result c.get.ensures)
