use Rattle.std.proofs.Common.{◌+◌, ◌*◌, ◌≤◌, length, List, ◌++◌}
use Rattle.sgl_lexer.specs.declared.lexeme.Token.{Token}
use Rattle.sgl_lexer.specs.declared.lexeme.TokenKind.TheVariants as kinds
use Rattle.sgl_lexer.specs.declared.vocabulary.Sign.TheVariants as signs
use Rattle.sgl_lexer.specs.Slices.{AreSlicesOf}
use Rattle.sgl_tree.specs.declared.statement.Stmt.{Stmt}
use Rattle.sgl_parser.specs.Breaks.{At}
use Rattle.sgl_parser.specs.Shape.{kinds_of}
use Rattle.sgl_parser.specs.StatementShape.{StatementShape}
use Rattle.sgl_parser.specs.Statements.{SpellsStatements}
use Rattle.sgl_parser.proofs.Sequences.{Threads}
use Rattle.sgl_parser.proofs.reading.Reader.+statements.Given as goal

abbrev pub decreases-block : goal.decreases-block
decreases-block l = 4 * length l.tokens.now

abbrev pub decreases-statements : goal.decreases-statements
decreases-statements l = 4 * length l.tokens.now + 2

abbrev pub decreases-statement : goal.decreases-statement
decreases-statement l = 4 * length l.tokens.now + 1

abbrev pub decreases-if_behind : goal.decreases-if_behind
decreases-if_behind l = 4 * length l.tokens.now + 1

abbrev pub decreases-branch : goal.decreases-branch
decreases-branch l = 4 * length l.tokens.now

-- statements behind those read so far are statements of all tokens
abbrev pub invariant-statements-statements : goal.invariant-statements-statements
invariant-statements-statements l = record {
  spelt : (vs : List Token) (more : List Stmt) → SpellsStatements l.self.text.now l.rest vs more → SpellsStatements l.self.text.now l.tokens vs (l.statements ++ more);
  threads : Threads StatementShape (At (kinds.Sign signs.BraceClose)) (kinds_of l.tokens) (kinds_of l.rest);
  shorter : length l.rest ≤ length l.tokens;
  of : AreSlicesOf l.self.text.now l.rest;
}

abbrev pub decreases-statements-statements : goal.decreases-statements-statements
decreases-statements-statements l = length l.rest
