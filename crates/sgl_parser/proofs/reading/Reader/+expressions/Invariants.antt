use Rattle.std.proofs.Common.{◌<◌, ◌≤◌, length, List, ◌++◌}
use Rattle.sgl_lexer.specs.declared.lexeme.Token.{Token}
use Rattle.sgl_tree.specs.declared.expression.Expr.{Expr}
use Rattle.sgl_parser.specs.Grammar.{Spells, SpellsArguments, Continues, Chained, Comparison, Primary, operand}
use Rattle.sgl_lexer.specs.Slices.{AreSlicesOf}
use Rattle.sgl_parser.specs.Follow.{Stops}
use Rattle.sgl_parser.specs.Shape.{Listed, kinds_of}
use Rattle.sgl_parser.proofs.Fronts.{Through}
use Rattle.sgl_parser.proofs.Chains.{rank, chain_rank, operand_rank, prefixed_rank, unprefixed_rank, steps}
use Rattle.sgl_parser.proofs.reading.Reader.+expressions.Given as goal

abbrev pub decreases-arguments : goal.decreases-arguments
decreases-arguments l = steps l.tokens.now 0

abbrev pub decreases-chain : goal.decreases-chain
decreases-chain l = steps l.tokens.now (chain_rank l.chain)

abbrev pub decreases-operand : goal.decreases-operand
decreases-operand l = steps l.tokens.now (operand_rank l.chain)

abbrev pub decreases-prefixed : goal.decreases-prefixed
decreases-prefixed l = steps l.tokens.now (prefixed_rank l.prefix)

abbrev pub decreases-unprefixed : goal.decreases-unprefixed
decreases-unprefixed l = steps l.tokens.now (unprefixed_rank l.prefix)

abbrev pub decreases-compare : goal.decreases-compare
decreases-compare l = steps l.tokens.now (rank Comparison)

abbrev pub decreases-primary : goal.decreases-primary
decreases-primary l = steps l.tokens.now (rank Primary)

abbrev pub decreases-named : goal.decreases-named
decreases-named l = steps l.rest.now (rank Primary)

-- what continues behind the term so far continues the whole
abbrev pub invariant-chain-operands : goal.invariant-chain-operands
invariant-chain-operands l = record {
  joins : (vs : List Token) (e : Expr) → Continues l.self.text.now l.chain l.left l.rest vs e → Spells l.self.text.now (Chained l.chain) l.tokens vs e;
  through : Through l.chain (kinds_of l.tokens) (kinds_of l.rest);
  stops : Stops (operand l.chain) l.rest;
  shorter : length l.rest < length l.tokens;
  of : AreSlicesOf l.self.text.now l.rest;
}

abbrev pub decreases-chain-operands : goal.decreases-chain-operands
decreases-chain-operands l = length l.rest

abbrev pub invariant-arguments-commas : goal.invariant-arguments-commas
invariant-arguments-commas l = record {
  joins : (vs : List Token) (es : List Expr) → SpellsArguments l.self.text.now l.rest vs es → SpellsArguments l.self.text.now l.tokens vs (l.args ++ es);
  listed : Listed (kinds_of l.tokens) (kinds_of l.rest);
  shorter : length l.rest ≤ length l.tokens;
  of : AreSlicesOf l.self.text.now l.rest;
}

abbrev pub decreases-arguments-commas : goal.decreases-arguments-commas
decreases-arguments-commas l = length l.rest
