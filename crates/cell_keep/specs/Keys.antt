-- The keys that are still to come.
use Rattle.std.specs.Prelude.{ℕ, List}
use Rattle.cell_keep.specs.declared.cell_iter.CellIter.{CellIter}
use Rattle.cell_keep.specs.Grid.{keys_in}
use Rattle.cell_keep.specs.Rows.{points_at}
use Rattle.cell_links.specs.Walks.{rows_left}

-- those of the points in the cell among the rows that are still to come
abbrev pub keys_left : CellIter → List ℕ
keys_left it = keys_in it.cell (points_at it.points.now (rows_left it.walk))
