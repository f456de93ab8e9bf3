use Rattle.std.proofs.Common.{◌≡◌, ◌<◌, ◌∙◌, get_or, length}
use Rattle.cell_keep.specs.Grid.{is_in_cell, keys_in}
use Rattle.cell_keep.specs.Keys.{keys_left}
use Rattle.cell_links.specs.Walks.{rows_left}
use Rattle.cell_keep.specs.Rows.{points_at}
use Rattle.cell_keep.proofs.Walking.{first_within, key_first, key_left_out, shorter, step_within}
use Rattle.cell_keep.proofs.cell_iter.CellIterIterator.next.Goals as goal
use Rattle.cell_keep.proofs.cell_iter.CellIterIterator.next.Goals.{After-is_in_cell}

pub invariant_of-self : goal.invariant_of-self
invariant_of-self c = record {
  within = step_within c.rows.self.points.now (rows_left c.rows.self.walk) (rows_left c.step.new.self) c.step.result c.step.ensures c.rows.self.within;
}

inside : (c : After-is_in_cell) → c.in-Some.row < length c.rows.self.points.now
inside c = first_within c.rows.self.points.now (rows_left c.rows.self.walk) (rows_left c.step.new.self) c.in-Some.row c.in-Some.ensures c.rows.self.within

tested : (c : After-is_in_cell) → c.is_in_cell.result ≡ is_in_cell c.rows.self.cell (get_or c.rows.self.points.now c.in-Some.row c.index-self-row.result)
tested c = cc

pub returns-then-is_in_cell-clause-steps : goal.returns-then-is_in_cell-clause-steps
returns-then-is_in_cell-clause-steps c =
    let it = c.rows.self in
    let at = (goal.at.returns-then-is_in_cell-clause-steps c).After-is_in_cell in
    c.rows.invariant
    ∙ key_first it.cell it.points.now (rows_left it.walk) (rows_left c.step.new.self) c.in-Some.row c.index-self-row.result c.is_in_cell.result c.in-Some.ensures (inside at) (tested at) c.if-is_in_cell.true

pub returns-then-is_in_cell-clause-goes : goal.returns-then-is_in_cell-clause-goes
returns-then-is_in_cell-clause-goes c =
    let it = c.rows.self in
    let rest = rows_left c.step.new.self in
    let row = c.in-Some.row in
    let d = c.index-self-row.result in
    let at = (goal.at.returns-then-is_in_cell-clause-goes c).After-is_in_cell in
    let less = shorter (keys_left c.args.self.now) (keys_in it.cell (points_at it.points.now rest)) (get_or it.points.now row d).key
    (c.rows.invariant ∙ key_first it.cell it.points.now (rows_left it.walk) rest row d c.is_in_cell.result c.in-Some.ensures (inside at) (tested at) c.if-is_in_cell.true) in
    record { on = λ finite. (tt, tt, less); keeps = tt; rests = λ finite. tt }

pub rows-preserved : goal.rows-preserved
rows-preserved c =
    let it = c.rows.self in
    let at = (goal.at.rows-preserved c).After-is_in_cell in
    c.rows.invariant
    ∙ key_left_out it.cell it.points.now (rows_left it.walk) (rows_left c.step.new.self) c.in-Some.row c.index-self-row.result c.is_in_cell.result c.in-Some.ensures (inside at) (tested at) c.if-is_in_cell.false
