use Rattle.std.proofs.Common.{◌<◌, ℕ, List, length, subst, sym}
use Rattle.std.specs.Prelude.{All, filter}
use Rattle.std.proofs.lemmas.List.Sorted.{IsPermutation-map}
use Rattle.cell_keep.specs.declared.point.KeepPoint.{KeepPoint}
use Rattle.cell_keep.specs.Grid.{is_in_cell}
use Rattle.cell_keep.specs.Kept.{points_of}
use Rattle.cell_links.specs.Walks.{rows_left}
use Rattle.cell_keep.specs.Rows.{points_at}
use Rattle.cell_keep.proofs.Counting.{cell_list}
use Rattle.cell_keep.proofs.Walking.{rows_members, rows_within}
use Rattle.cell_keep.proofs.kept.Kept.members.Goals as goal

pub invariant_of-result : goal.invariant_of-result
invariant_of-result c =
    let kept = c.self.inside in
    let rows = rows_left c.new-walk.result in
    record {
      within = subst (λ (l : List KeepPoint). All (λ (row : ℕ). row < length l) rows) (sym c.as_slice-points.ensures.value)
          (rows_within kept.held c.self.invariant.are_placed c.new-walk.ensures.links c.list_of.result rows c.new-walk.ensures.rows);
    }

pub returns : goal.returns
returns c =
    let kept = c.self.inside in
    let points = kept.held.points.items in
    let rows = rows_left c.new-walk.result in
    let test = is_in_cell c.args.cell.now in
    rw (← c.self.view_is, c.as_slice-points.ensures.value)
    (IsPermutation-map (λ (point : KeepPoint). point.key) (filter test (points_of kept.held)) (filter test (points_at points rows))
    (rows_members kept.held c.self.invariant.are_placed c.new-walk.ensures.links c.list_of.result rows c.new-walk.ensures.rows test
    (cell_list c.args.cell.now c.list_of.result c.list_of.ensures.value)))
