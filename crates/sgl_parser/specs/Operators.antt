-- Which tokens are operators, prefixes, tags, folds and numbers.
use Rattle.std.specs.Prelude.{Bool, true, false, Option, Some, None}
use Rattle.std.specs.Option.{is_some}
use Rattle.sgl_lexer.specs.declared.lexeme.TokenKind.{TokenKind}
use Rattle.sgl_lexer.specs.declared.lexeme.TokenKind.TheVariants as kinds
use Rattle.sgl_lexer.specs.declared.vocabulary.Word.{Word}
use Rattle.sgl_lexer.specs.declared.vocabulary.Word.TheVariants as words
use Rattle.sgl_lexer.specs.declared.vocabulary.Sign.TheVariants as signs
use Rattle.sgl_values.specs.declared.operator.BinOp.{BinOp}
use Rattle.sgl_values.specs.declared.operator.BinOp.TheVariants as ops
use Rattle.sgl_values.specs.declared.operator.CmpOp.{CmpOp}
use Rattle.sgl_values.specs.declared.operator.CmpOp.TheVariants as comparisons
use Rattle.sgl_values.specs.declared.operator.FoldKind.{FoldKind}
use Rattle.sgl_values.specs.declared.operator.FoldKind.TheVariants as folds
use Rattle.sgl_values.specs.declared.fault.Tag.{Tag}
use Rattle.sgl_values.specs.declared.fault.Tag.TheVariants as tags
use Rattle.sgl_parser.specs.declared.precedence.Chain.{Chain}
use Rattle.sgl_parser.specs.declared.precedence.Chain.TheVariants as chains
use Rattle.sgl_parser.specs.declared.precedence.Prefix.{Prefix}
use Rattle.sgl_parser.specs.declared.precedence.Prefix.TheVariants as prefixes

-- the operator of a chain that a kind of token is
abbrev pub operator : Chain → TokenKind → Option BinOp
operator chains.Or (kinds.Word words.Or) = Some ops.Or
operator chains.And (kinds.Word words.And) = Some ops.And
operator chains.Sum (kinds.Sign signs.Plus) = Some ops.Add
operator chains.Sum (kinds.Sign signs.Minus) = Some ops.Sub
operator chains.Product (kinds.Sign signs.Star) = Some ops.Mul
operator chains.Product (kinds.Sign signs.Slash) = Some ops.Div
operator chains.Product (kinds.Sign signs.Percent) = Some ops.Rem
operator _ _ = None

-- the kind of token that a prefix is
abbrev pub prefix_kind : Prefix → TokenKind
prefix_kind prefixes.Not = kinds.Word words.Not
prefix_kind prefixes.Minus = kinds.Sign signs.Minus

-- the comparison that a kind of token is
abbrev pub comparison : TokenKind → Option CmpOp
comparison (kinds.Sign signs.Equal) = Some comparisons.Eq
comparison (kinds.Sign signs.NotEqual) = Some comparisons.Ne
comparison (kinds.Sign signs.Less) = Some comparisons.Lt
comparison (kinds.Sign signs.LessEqual) = Some comparisons.Le
comparison (kinds.Sign signs.Greater) = Some comparisons.Gt
comparison (kinds.Sign signs.GreaterEqual) = Some comparisons.Ge
comparison _ = None

-- the tag and the fold over an attribute that a word names
abbrev pub named_by : Word → Option Tag × Option FoldKind
named_by words.Sum = (Some tags.Sum, Some folds.Sum)
named_by words.Min = (Some tags.Min, Some folds.Min)
named_by words.Max = (Some tags.Max, Some folds.Max)
named_by words.Top = (Some tags.Top, None)
named_by words.Lowest = (None, Some folds.Lowest)
named_by words.Highest = (None, Some folds.Highest)
named_by _ = (None, None)

-- the tag that a kind of token is
abbrev pub tag : TokenKind → Option Tag
tag (kinds.Word word) = (named_by word).0
tag _ = None

-- the fold over an attribute that a kind of token is
abbrev pub fold : TokenKind → Option FoldKind
fold (kinds.Word word) = (named_by word).1
fold _ = None

abbrev pub is_comparison : TokenKind → Bool
is_comparison k = is_some (comparison k)

abbrev pub is_tag : TokenKind → Bool
is_tag k = is_some (tag k)

abbrev pub is_fold : TokenKind → Bool
is_fold k = is_some (fold k)

abbrev pub is_number : TokenKind → Bool
is_number (kinds.Number n) = true
is_number _ = false
