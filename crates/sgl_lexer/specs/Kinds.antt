-- What a token is, as a slice of the text.
use Rattle.std.specs.Prelude.{◌≡◌, ◌≢◌, ℕ, ◌+◌, ◌*◌, ◌-◌, ◌<◌, ◌≤◌, ◌==◌, ◌||◌, Bool, IsTrue, List, [], ◌∷◌, length, take, codes, slice_index, All}
use Rattle.std.specs.Char.{is_ascii_digit, is_ascii_alphabetic}
use Rattle.sgl_lexer.specs.declared.vocabulary.Word.{Word}
use Rattle.sgl_lexer.specs.declared.vocabulary.Word.TheVariants.{Attr, Const, Sum, Min, Max, Aggregate, Action, Routine, Main, Post, Count, Lowest, Highest, Where, Else, On, Let, If, Perform, Remove, When, And, Or, Not, True, False, Random, Top, By, Spawn, Nearest, Within}
use Rattle.sgl_lexer.specs.declared.vocabulary.Sign.{Sign}
use Rattle.sgl_lexer.specs.declared.vocabulary.Sign.TheVariants.{ParenOpen, ParenClose, BraceOpen, BraceClose, Comma, Semicolon, Dot, Plus, Minus, Star, Slash, Percent, Equal, NotEqual, Less, LessEqual, Greater, GreaterEqual, Arrow}
use Rattle.sgl_lexer.specs.declared.lexeme.TokenKind.{TokenKind}
use Rattle.sgl_lexer.specs.declared.lexeme.TokenKind.TheVariants as kinds

-- the bytes of a reserved word
abbrev pub word_text : Word → List ℕ
word_text Attr = codes "attr"
word_text Const = codes "const"
word_text Sum = codes "sum"
word_text Min = codes "min"
word_text Max = codes "max"
word_text Aggregate = codes "aggregate"
word_text Action = codes "action"
word_text Routine = codes "routine"
word_text Main = codes "main"
word_text Post = codes "post"
word_text Count = codes "count"
word_text Lowest = codes "lowest"
word_text Highest = codes "highest"
word_text Where = codes "where"
word_text Else = codes "else"
word_text On = codes "on"
word_text Let = codes "let"
word_text If = codes "if"
word_text Perform = codes "perform"
word_text Remove = codes "remove"
word_text When = codes "when"
word_text And = codes "and"
word_text Or = codes "or"
word_text Not = codes "not"
word_text True = codes "true"
word_text False = codes "false"
word_text Random = codes "random"
word_text Top = codes "top"
word_text By = codes "by"
word_text Spawn = codes "spawn"
word_text Nearest = codes "nearest"
word_text Within = codes "within"

-- the bytes of a sign
abbrev pub sign_text : Sign → List ℕ
sign_text ParenOpen = codes "("
sign_text ParenClose = codes ")"
sign_text BraceOpen = codes "{"
sign_text BraceClose = codes "}"
sign_text Comma = codes ","
sign_text Semicolon = codes ";"
sign_text Dot = codes "."
sign_text Plus = codes "+"
sign_text Minus = codes "-"
sign_text Star = codes "*"
sign_text Slash = codes "/"
sign_text Percent = codes "%"
sign_text Equal = codes "="
sign_text NotEqual = codes "<>"
sign_text Less = codes "<"
sign_text LessEqual = codes "<="
sign_text Greater = codes ">"
sign_text GreaterEqual = codes ">="
sign_text Arrow = codes "<-"

-- a letter of ASCII or the underscore
abbrev pub begins_name : ℕ → Bool
begins_name b = is_ascii_alphabetic b || (b == 95)

-- a letter, a digit or the underscore
abbrev pub continues_name : ℕ → Bool
continues_name b = begins_name b || is_ascii_digit b

-- a letter or the underscore, then letters, digits and underscores
abbrev pub IsNameText : List ℕ → Type 0
IsNameText bytes = (0 < length bytes) × IsTrue (begins_name (slice_index bytes 0)) × All (λ b. IsTrue (continues_name b)) bytes

-- one or more digits
abbrev pub IsNumberText : List ℕ → Type 0
IsNumberText bytes = (0 < length bytes) × All (λ b. IsTrue (is_ascii_digit b)) bytes

-- the number that digits write, behind a number already read
abbrev pub number_behind : ℕ → List ℕ → ℕ
number_behind n [] = n
number_behind n (b ∷ bs) = number_behind (10 * n + (b - 48)) bs

-- A slice is a token of a kind. Every word that is not reserved is a name.
abbrev pub IsOfKind : List ℕ → TokenKind → Type 0
IsOfKind bytes (kinds.Word w) = bytes ≡ word_text w
IsOfKind bytes kinds.Name = IsNameText bytes × ((w : Word) → bytes ≢ word_text w)
IsOfKind bytes (kinds.Number n) = IsNumberText bytes × (n ≡ number_behind 0 bytes)
IsOfKind bytes (kinds.Sign s) = bytes ≡ sign_text s

-- The longest front of the text that is a token has this length and this kind.
pub record IsLongest (kind : TokenKind) (len : ℕ) (text : List ℕ) : Type 0 where
  pub within : len ≤ length text
  pub token : IsOfKind (take len text) kind
  pub longest : (more : ℕ) (other : TokenKind) → len < more → more ≤ length text → IsOfKind (take more text) other → ⊥

-- No front of the text is a token.
abbrev pub IsNoToken : List ℕ → Type 0
IsNoToken text = (len : ℕ) (kind : TokenKind) → len ≤ length text → IsOfKind (take len text) kind → ⊥

-- A text begins with these bytes.
abbrev pub Begins : List ℕ → List ℕ → Type 0
Begins front text = (length front ≤ length text) × (take (length front) text ≡ front)
