use Rattle.std.proofs.Common.{◌≡◌, length}
use Rattle.cell_links.specs.Walks.{rows_left}
use Rattle.cell_keep.specs.Keys.{keys_left}
use Rattle.cell_keep.proofs.cell_iter.CellIterIterator.next.Given as goal

abbrev pub invariant-rows : goal.invariant-rows
invariant-rows l = keys_left l.initial.self ≡ keys_left l.self

abbrev pub decreases-rows : goal.decreases-rows
decreases-rows l = length (rows_left l.self.walk)
