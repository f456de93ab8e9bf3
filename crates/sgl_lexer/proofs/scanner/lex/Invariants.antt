use Rattle.std.proofs.Common.{◌-◌, length}
use Rattle.sgl_lexer.proofs.Steps.{Passed}
use Rattle.sgl_lexer.proofs.scanner.lex.Given as goal

abbrev pub invariant-loop-at : goal.invariant-loop-at
invariant-loop-at l = Passed l.text l.list l.at l.place

abbrev pub decreases-loop-at : goal.decreases-loop-at
decreases-loop-at l = length l.text - l.at
