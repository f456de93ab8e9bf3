use Rattle.std.proofs.Common.{length}
use Rattle.sgl_parser.specs.Breaks.{NotAt}
use Rattle.sgl_parser.specs.ItemShape.{RuleShape}
use Rattle.sgl_parser.specs.Scripts.{SpellsRule}
use Rattle.sgl_lexer.specs.declared.lexeme.TokenKind.TheVariants as kinds
use Rattle.sgl_parser.proofs.reading.Reader.rules.Given as goal
use Rattle.sgl_parser.proofs.SoFar.{SoFar}
use Rattle.std.proofs.Common.{[]}

-- what was read so far
abbrev pub invariant-rules : goal.invariant-rules
invariant-rules l = SoFar RuleShape (NotAt kinds.Name) (SpellsRule l.self.text.now) l.self.text.now l.tokens l.rest [] l.rules

abbrev pub decreases-rules : goal.decreases-rules
decreases-rules l = length l.rest
