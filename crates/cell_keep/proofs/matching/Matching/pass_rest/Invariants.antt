use Rattle.std.proofs.Common.{◌-◌, length}
use Rattle.cell_keep.specs.Skips.{Skips}
use Rattle.cell_keep.proofs.matching.Matching.pass_rest.Given as goal

abbrev pub invariant-rest : goal.invariant-rest
invariant-rest l = Skips l.new l.initial.self l.self

abbrev pub decreases-rest : goal.decreases-rest
decreases-rest l = length l.new - length l.self.taken.items
