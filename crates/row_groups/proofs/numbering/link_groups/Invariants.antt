use Rattle.std.proofs.Common.{take, length}
use Rattle.row_groups.specs.Places.{AreLinked}
use Rattle.row_groups.proofs.numbering.link_groups.Given as goal

abbrev pub invariant-loop-row : goal.invariant-loop-row
invariant-loop-row l = AreLinked l.links (take l.row l.groups) (length l.groups) l.count
