use Rattle.cell_keep.specs.Covers.{is_counted_along}
use Rattle.cell_keep.specs.Kept.{points_of}
use Rattle.cell_keep.proofs.Adding.{AreSums}
use Rattle.cell_keep.proofs.summing.column_sums.Given as goal

abbrev pub invariant-loop-north : goal.invariant-loop-north
invariant-loop-north l = AreSums (points_of l.held) (is_counted_along l.circle l.lowest l.north) l.sums
