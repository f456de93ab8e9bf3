-- The order of the functions that read expressions from one token on: each calls those of lower rank.
use Rattle.std.proofs.Common.{ℕ, ◌+◌, ◌*◌, List, length}
use Rattle.sgl_lexer.specs.declared.lexeme.Token.{Token}
use Rattle.sgl_parser.specs.declared.precedence.Chain.{Chain}
use Rattle.sgl_parser.specs.declared.precedence.Chain.TheVariants as chains
use Rattle.sgl_parser.specs.declared.precedence.Prefix.{Prefix}
use Rattle.sgl_parser.specs.Grammar.{Part, Chained, Negation, Comparison, Unary, Primary, operand, unprefixed}

-- the rank of what reads a part
abbrev pub rank : Part → ℕ
rank (Chained chains.Or) = 14
rank (Chained chains.And) = 12
rank Negation = 10
rank Comparison = 8
rank (Chained chains.Sum) = 7
rank (Chained chains.Product) = 5
rank Unary = 3
rank Primary = 1

-- What chooses a part by its chain or its prefix is one above it, and what calls that one is next.
abbrev pub operand_rank : Chain → ℕ
operand_rank c = rank (operand c) + 1

abbrev pub chain_rank : Chain → ℕ
chain_rank c = operand_rank c + 1

abbrev pub unprefixed_rank : Prefix → ℕ
unprefixed_rank p = rank (unprefixed p) + 1

abbrev pub prefixed_rank : Prefix → ℕ
prefixed_rank p = unprefixed_rank p + 1

-- the steps that are left at most: for each token as many as there are ranks, and those below the rank
abbrev pub steps : List Token → ℕ → ℕ
steps tokens rank = 16 * length tokens + rank
