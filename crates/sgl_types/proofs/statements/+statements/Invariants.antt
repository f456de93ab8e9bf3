use Rattle.std.proofs.Common.{drop}
use Rattle.sgl_types.specs.Statements.{standing}
use Rattle.sgl_types.proofs.Walks.{Walks}
use Rattle.sgl_types.proofs.statements.+statements.Given as goal

abbrev pub invariant-check_block-loop-statement : goal.invariant-check_block-loop-statement
invariant-check_block-loop-statement l =
    Walks (standing l.body l.initial.progress.locals l.initial.progress.next) l.initial.progress.found l.statements
    (standing l.body l.progress.locals l.progress.next) l.progress.found l.made (drop l.statement-index l.statements)
