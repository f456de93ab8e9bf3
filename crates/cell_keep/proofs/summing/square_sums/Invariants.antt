use Rattle.cell_keep.specs.Covers.{is_counted_before}
use Rattle.cell_keep.specs.Kept.{points_of}
use Rattle.cell_keep.proofs.Adding.{AreSums}
use Rattle.cell_keep.proofs.summing.square_sums.Given as goal

abbrev pub invariant-loop-east : goal.invariant-loop-east
invariant-loop-east l = AreSums (points_of l.held) (is_counted_before l.circle l.square l.east) l.sums
