use Rattle.std.proofs.Common.{◌+◌, ◌*◌, drop}
use Rattle.sgl_expand.proofs.Stepping.{Walks}
use Rattle.sgl_expand.specs.Steps.{Goes, stand_of}
use Rattle.sgl_expand.proofs.write.Writing.+writing.Given as goal

abbrev pub decreases-write_block : goal.decreases-write_block
decreases-write_block l = 5 * l.levels + 4

abbrev pub decreases-write_calls : goal.decreases-write_calls
decreases-write_calls l = 5 * l.levels + 3

abbrev pub decreases-write_next : goal.decreases-write_next
decreases-write_next l = 5 * l.levels + 2

abbrev pub decreases-write_statement : goal.decreases-write_statement
decreases-write_statement l = 5 * l.levels + 1

abbrev pub invariant-write_calls-loop : goal.invariant-write_calls-loop
invariant-write_calls-loop l = Goes l.routines (stand_of l.initial.self) (stand_of l.self)

-- what the block stands in is put aside
abbrev pub invariant-write_block-loop-statement : goal.invariant-write_block-loop-statement
invariant-write_block-loop-statement l =
    Walks l.routines l.statements (drop l.statement-index l.statements) l.initial.self.numbering.known.items l.initial.self.numbering.next (stand_of l.self)

abbrev pub decreases-write_if : goal.decreases-write_if
decreases-write_if l = 5 * l.levels
