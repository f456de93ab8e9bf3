use Rattle.std.proofs.Common.{◌-◌, length}
use Rattle.cell_keep.specs.Skips.{Skips}
use Rattle.cell_keep.proofs.matching.Matching.pass_below.Given as goal

abbrev pub invariant-below : goal.invariant-below
invariant-below l = Skips l.new l.initial.self l.self

abbrev pub decreases-below : goal.decreases-below
decreases-below l = length l.new - length l.self.taken.items
