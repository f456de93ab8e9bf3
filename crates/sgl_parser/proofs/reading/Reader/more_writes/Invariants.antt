use Rattle.std.proofs.Common.{length}
use Rattle.sgl_parser.specs.Breaks.{NotAt}
use Rattle.sgl_parser.specs.ItemShape.{WriteShape}
use Rattle.sgl_parser.specs.Scripts.{SpellsWrite}
use Rattle.sgl_lexer.specs.declared.lexeme.TokenKind.TheVariants as kinds
use Rattle.sgl_parser.proofs.reading.Reader.more_writes.Given as goal
use Rattle.sgl_parser.proofs.SoFar.{SoFar}

-- what was read so far, behind what was there before
abbrev pub invariant-writes : goal.invariant-writes
invariant-writes l = SoFar WriteShape (NotAt kinds.Name) (SpellsWrite l.self.text.now) l.self.text.now l.tokens l.rest l.fn.before l.writes

abbrev pub decreases-writes : goal.decreases-writes
decreases-writes l = length l.rest
