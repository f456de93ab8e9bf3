-- The grammar of items over kinds of tokens alone.
use Rattle.std.specs.Prelude.{List, [], ◌∷◌}
use Rattle.sgl_lexer.specs.declared.lexeme.TokenKind.{TokenKind}
use Rattle.sgl_lexer.specs.declared.lexeme.TokenKind.TheVariants as kinds
use Rattle.sgl_lexer.specs.declared.vocabulary.Word.{Word}
use Rattle.sgl_lexer.specs.declared.vocabulary.Word.TheVariants as words
use Rattle.sgl_lexer.specs.declared.vocabulary.Sign.{Sign}
use Rattle.sgl_lexer.specs.declared.vocabulary.Sign.TheVariants as signs
use Rattle.sgl_parser.specs.Breaks.{Relation, Done, Then, OneOf, Before, Either, ByWord, Maybe, Many}
use Rattle.sgl_parser.specs.Grammar.{expression, sum}
use Rattle.sgl_parser.specs.Operators.{is_number, is_tag, is_fold, is_comparison}
use Rattle.sgl_parser.specs.Shape.{Shape}
use Rattle.sgl_parser.specs.StatementShape.{BlockShape, ValueShape}

-- a sign at the end of a part
abbrev pub Last : Sign → Relation
Last sign = Then (kinds.Sign sign) Done

-- ---- attributes

-- [ "-" ] NUMBER
abbrev pub LiteralShape : Relation
LiteralShape = Either (Then (kinds.Sign signs.Minus) (OneOf is_number Done)) (OneOf is_number Done)

-- "const" ";" | tag "=" literal ";"
abbrev pub SortShape : Relation
SortShape = Either (Then (kinds.Word words.Const) (Last signs.Semicolon)) (OneOf is_tag (Then (kinds.Sign signs.Equal) (Before LiteralShape (Last signs.Semicolon))))

-- NAME sort
abbrev pub AttributeShape : Relation
AttributeShape = Then kinds.Name SortShape

-- ---- aggregates

-- "," NAME
abbrev pub MoreNameShape : Relation
MoreNameShape = Then (kinds.Sign signs.Comma) (Then kinds.Name Done)

-- "(" NAME { "," NAME } ")"
abbrev pub ParametersShape : Relation
ParametersShape = Then (kinds.Sign signs.ParenOpen) (Then kinds.Name (Before (Many MoreNameShape) (Last signs.ParenClose)))

-- NAME params
abbrev pub HeadingShape : Relation
HeadingShape = Then kinds.Name ParametersShape

-- "(" NAME "," NAME
abbrev pub PointShape : Relation
PointShape = Then (kinds.Sign signs.ParenOpen) (Then kinds.Name (Then (kinds.Sign signs.Comma) (Then kinds.Name Done)))

-- Behind "count": NAME
abbrev pub CountShape : Relation
CountShape = Then kinds.Name Done

-- Behind "nearest": NAME point ")"
abbrev pub NearestShape : Relation
NearestShape = Then kinds.Name (Before PointShape (Last signs.ParenClose))

-- fold NAME "." NAME
abbrev pub MeasureShape : Relation
MeasureShape = OneOf is_fold (Then kinds.Name (Then (kinds.Sign signs.Dot) (Then kinds.Name Done)))

-- "count" .. | "nearest" .. | measure
abbrev pub FoldShape : Relation
FoldShape = Either (Then (kinds.Word words.Count) CountShape) (Either (Then (kinds.Word words.Nearest) NearestShape) MeasureShape)

-- Behind "within": point "," sum ")"
abbrev pub CircleShape : Relation
CircleShape = Before PointShape (Then (kinds.Sign signs.Comma) (Before (Shape sum) (Last signs.ParenClose)))

-- NAME "." NAME cmp sum
abbrev pub ComparisonShape : Relation
ComparisonShape = Then kinds.Name (Then (kinds.Sign signs.Dot) (Then kinds.Name (OneOf is_comparison (Shape sum))))

-- "within" .. | comparison
abbrev pub TestShape : Relation
TestShape = Either (Then (kinds.Word words.Within) CircleShape) ComparisonShape

-- "and" test
abbrev pub MoreTestShape : Relation
MoreTestShape = Then (kinds.Word words.And) TestShape

-- test { "and" test }
abbrev pub TestsShape : Relation
TestsShape = Before TestShape (Many MoreTestShape)

-- [ "where" tests ]
abbrev pub WhereShape : Relation
WhereShape = Maybe (Then (kinds.Word words.Where) TestsShape)

-- What may stand behind tests: "else", ";" or "{".
abbrev pub BehindTests : List TokenKind → Type 0
BehindTests (kinds.Word words.Else ∷ ks) = Unit {0}
BehindTests (kinds.Sign signs.Semicolon ∷ ks) = Unit {0}
BehindTests (kinds.Sign signs.BraceOpen ∷ ks) = Unit {0}
BehindTests _ = ⊥

-- [ "else" literal ]
abbrev pub OtherwiseShape : Relation
OtherwiseShape = Maybe (Then (kinds.Word words.Else) LiteralShape)

-- heading "=" fold [ "where" tests ] [ "else" literal ] ";"
abbrev pub AggregateShape : Relation
AggregateShape = Before HeadingShape (Then (kinds.Sign signs.Equal) (Before FoldShape (Before WhereShape (Before OtherwiseShape (Last signs.Semicolon)))))

-- ---- actions

-- [ "by" expr ]
abbrev pub PriorityShape : Relation
PriorityShape = Maybe (Then (kinds.Word words.By) (Shape expression))

-- NAME "<-" expr [ "by" expr ] ";"
abbrev pub WriteShape : Relation
WriteShape = Then kinds.Name (Then (kinds.Sign signs.Arrow) (Before (Shape expression) (Before PriorityShape (Last signs.Semicolon))))

-- NAME [ "where" tests ] "{" write { write } "}"
abbrev pub OnShape : Relation
OnShape = Then kinds.Name (Before WhereShape (Then (kinds.Sign signs.BraceOpen) (Before WriteShape (Before (Many WriteShape) (Last signs.BraceClose)))))

-- heading "on" on { "on" on }
abbrev pub ActionShape : Relation
ActionShape = Before HeadingShape (Then (kinds.Word words.On) (Before OnShape (Many (Then (kinds.Word words.On) OnShape))))

-- ---- the other items

-- heading block
abbrev pub RoutineShape : Relation
RoutineShape = Before HeadingShape BlockShape

-- "(" NAME ")" block
abbrev pub MainShape : Relation
MainShape = Then (kinds.Sign signs.ParenOpen) (Then kinds.Name (Then (kinds.Sign signs.ParenClose) BlockShape))

-- NAME "=" value
abbrev pub RuleShape : Relation
RuleShape = Then kinds.Name (Then (kinds.Sign signs.Equal) ValueShape)

-- "when" expr "{" { rule } "}"
abbrev pub ChildShape : Relation
ChildShape = Then (kinds.Word words.When) (Before (Shape expression) (Then (kinds.Sign signs.BraceOpen) (Before (Many RuleShape) (Last signs.BraceClose))))

-- [ "spawn" child ]
abbrev pub SpawnShape : Relation
SpawnShape = Maybe (Then (kinds.Word words.Spawn) ChildShape)

-- [ "remove" "when" value ]
abbrev pub RemovalShape : Relation
RemovalShape = Maybe (Then (kinds.Word words.Remove) (Then (kinds.Word words.When) ValueShape))

-- "{" { rule } [ spawn ] [ removal ] "}"
abbrev pub PostShape : Relation
PostShape = Then (kinds.Sign signs.BraceOpen) (Before (Many RuleShape) (Before SpawnShape (Before RemovalShape (Last signs.BraceClose))))

-- what stands behind the first word of an item
abbrev pub ItemBody : Word → Relation
ItemBody words.Attr = AttributeShape
ItemBody words.Aggregate = AggregateShape
ItemBody words.Action = ActionShape
ItemBody words.Routine = RoutineShape
ItemBody words.Main = MainShape
ItemBody words.Post = PostShape
ItemBody _ = λ ks ls. ⊥

-- an item of any kind
abbrev pub ItemShape : Relation
ItemShape = ByWord ItemBody

-- The kinds of tokens have the shape of a script.
abbrev pub HasScriptShape : List TokenKind → Type 0
HasScriptShape ks = Many ItemShape ks []
