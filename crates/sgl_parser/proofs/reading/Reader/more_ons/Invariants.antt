use Rattle.std.proofs.Common.{length}
use Rattle.sgl_parser.specs.Breaks.{NotAt, Then}
use Rattle.sgl_parser.specs.ItemShape.{OnShape}
use Rattle.sgl_parser.specs.Scripts.{SpellsMoreOn}
use Rattle.sgl_lexer.specs.declared.lexeme.TokenKind.TheVariants as kinds
use Rattle.sgl_lexer.specs.declared.vocabulary.Word.TheVariants as words
use Rattle.sgl_parser.proofs.reading.Reader.more_ons.Given as goal
use Rattle.sgl_parser.proofs.SoFar.{SoFar}

-- what was read so far, behind what was there before
abbrev pub invariant-clauses : goal.invariant-clauses
invariant-clauses l = SoFar (Then (kinds.Word words.On) OnShape) (NotAt (kinds.Word words.On)) (SpellsMoreOn l.self.text.now) l.self.text.now l.tokens l.rest l.fn.before l.ons

abbrev pub decreases-clauses : goal.decreases-clauses
decreases-clauses l = length l.rest
