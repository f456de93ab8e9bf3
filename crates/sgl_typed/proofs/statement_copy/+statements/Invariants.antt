use Rattle.std.proofs.Common.{◌≡◌, take}
use Rattle.sgl_typed.proofs.statement_copy.+statements.Given as goal

abbrev pub invariant-copy_stmts-loop-stmt : goal.invariant-copy_stmts-loop-stmt
invariant-copy_stmts-loop-stmt l = l.copies ≡ take l.stmt-index l.stmts
