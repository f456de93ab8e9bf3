use Rattle.std.proofs.Common.{length}
use Rattle.sgl_parser.specs.Breaks.{At}
use Rattle.sgl_parser.specs.ItemShape.{MoreNameShape}
use Rattle.sgl_parser.specs.Scripts.{SpellsMoreName}
use Rattle.sgl_lexer.specs.declared.lexeme.TokenKind.TheVariants as kinds
use Rattle.sgl_lexer.specs.declared.vocabulary.Sign.TheVariants as signs
use Rattle.sgl_parser.proofs.reading.Reader.more_names.Given as goal
use Rattle.sgl_parser.proofs.SoFar.{SoFar}

-- what was read so far, behind what was there before
abbrev pub invariant-names : goal.invariant-names
invariant-names l = SoFar MoreNameShape (At (kinds.Sign signs.ParenClose)) (SpellsMoreName l.self.text.now) l.self.text.now l.tokens l.rest l.fn.before l.names

abbrev pub decreases-names : goal.decreases-names
decreases-names l = length l.rest
