use Rattle.std.proofs.Common.{◌≡◌, [], subst}
use Rattle.std.specs.Prelude.{MatchOption, slice_index_or}
use Rattle.group_boxes.specs.Points.{Indexed}
use Rattle.row_groups.proofs.Listing.{found_list}
use Rattle.group_boxes.proofs.boxes.Boxes.index_in.Goals as goal

pub returns : goal.returns
returns c =
    let group = c.args.group in
    let P : Indexed → Type 0 = λ boxes. MatchOption c.get.result (slice_index_or boxes.lists group [] ≡ []) (λ index. index.now ≡ slice_index_or boxes.lists group []) in
    subst P c.self.view_is (found_list c.self.inside.indexes group c.get.result c.get.ensures)
