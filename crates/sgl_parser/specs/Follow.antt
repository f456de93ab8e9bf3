-- Which tokens go on with a part of an expression.
use Rattle.std.specs.Prelude.{◌≡◌, ◌≢◌, ◌||◌, Bool, true, false, List, [], ◌∷◌}
use Rattle.std.specs.Option.{is_some}
use Rattle.sgl_lexer.specs.declared.lexeme.Token.{Token}
use Rattle.sgl_lexer.specs.declared.lexeme.TokenKind.{TokenKind}
use Rattle.sgl_lexer.specs.declared.lexeme.TokenKind.TheVariants as kinds
use Rattle.sgl_lexer.specs.declared.vocabulary.Sign.TheVariants as signs
use Rattle.sgl_parser.specs.declared.precedence.Chain.TheVariants as chains
use Rattle.sgl_parser.specs.Operators.{operator, comparison}
use Rattle.sgl_parser.specs.Grammar.{Part, Chained, Negation, Comparison, Unary, Primary}

-- a dot or a bracket, which go on with a name
abbrev pub opens_more : TokenKind → Bool
opens_more (kinds.Sign signs.Dot) = true
opens_more (kinds.Sign signs.ParenOpen) = true
opens_more _ = false

-- a kind of token that goes on with a part, so that the part does not end before it
abbrev pub continues : Part → TokenKind → Bool
continues Primary k = opens_more k
continues Unary k = opens_more k
continues (Chained chains.Product) k = is_some (operator chains.Product k) || opens_more k
continues (Chained chains.Sum) k = is_some (operator chains.Sum k) || (is_some (operator chains.Product k) || opens_more k)
continues Comparison k = is_some (comparison k) || (is_some (operator chains.Sum k) || (is_some (operator chains.Product k) || opens_more k))
continues Negation k = is_some (comparison k) || (is_some (operator chains.Sum k) || (is_some (operator chains.Product k) || opens_more k))
continues (Chained chains.And) k = is_some (operator chains.And k) || (is_some (comparison k) || (is_some (operator chains.Sum k) || (is_some (operator chains.Product k) || opens_more k)))
continues (Chained chains.Or) k = is_some (operator chains.Or k) || (is_some (operator chains.And k) || (is_some (comparison k) || (is_some (operator chains.Sum k) || (is_some (operator chains.Product k) || opens_more k))))

-- No token goes on with the part.
abbrev pub Stops : Part → List Token → Type 0
Stops part [] = Unit {0}
Stops part (t ∷ ts) = continues part t.kind ≡ false

-- a comma goes on with arguments
abbrev pub continues_arguments : TokenKind → Bool
continues_arguments (kinds.Sign signs.Comma) = true
continues_arguments _ = false

-- No comma stands at the front.
abbrev pub StopsArguments : List Token → Type 0
StopsArguments [] = Unit {0}
StopsArguments (t ∷ ts) = continues_arguments t.kind ≡ false

-- No token of this kind stands at the front.
abbrev pub IsNotAt : TokenKind → List Token → Type 0
IsNotAt kind [] = Unit {0}
IsNotAt kind (t ∷ ts) = t.kind ≢ kind
