use Rattle.std.proofs.Common.{◌+◌, take}
use Rattle.nearest_tree.specs.Marks.{StandsFor}
use Rattle.nearest_tree.proofs.mark.Mark.of.Given as goal

abbrev pub invariant-loop-point : goal.invariant-loop-point
invariant-loop-point l = StandsFor l.mark (take (l.point-index + 1) l.points)
