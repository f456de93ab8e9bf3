-- Cells are the same in any order, by the lemma.
use Rattle.sgl_values.proofs.Combining.{cell-IsPermutation}
use Rattle.sgl_values.proofs.law.cells_ignore_order.Goals as goal

pub returns : goal.returns
returns c = cell-IsPermutation
