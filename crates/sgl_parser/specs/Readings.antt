-- What the tokens of a text can be read as.
use Rattle.std.specs.Prelude.{◌≡◌, ◌≢◌, ◌⊎◌, ℕ, suc, ◌<◌, ◌≤◌, List, ◌++◌, Option, Some, None, Result, Ok, Err, length, take, slice_get}
use Rattle.sgl_values.specs.declared.place.Place.{Place}
use Rattle.sgl_tree.specs.declared.item.Script.{Script}
use Rattle.sgl_lexer.specs.declared.lexeme.Token.{Token}
use Rattle.sgl_lexer.specs.declared.lexeme.Tokens.{Tokens}
use Rattle.sgl_lexer.specs.declared.lexeme.TokenKind.{TokenKind}
use Rattle.sgl_parser.specs.declared.parser.ParseFault.{ParseFault}
use Rattle.sgl_parser.specs.declared.parser.ParseFault.TheVariants.{Syntax, TooDeep, Memory}
use Rattle.sgl_parser.specs.ItemShape.{HasScriptShape}
use Rattle.sgl_parser.specs.Nesting.{IsShallow, IsFirstDeep, nesting_at}
use Rattle.sgl_parser.specs.Scripts.{IsScript}
use Rattle.sgl_parser.specs.Shape.{kinds_of}
use Rattle.sgl_values.specs.declared.limit.TheConstants.{NESTING_MAX}

-- ---- scripts and shapes

-- Two scripts that one list of tokens spells are one script.
abbrev pub HasOneReading : Type 0
HasOneReading = (text : List ℕ) (tokens : Tokens) (s r : Script) → IsScript text tokens s → IsScript text tokens r → s ≡ r

-- Tokens spell a script exactly where their kinds have the shape of one.
pub record ShapesAreSpelled : Type 0 where
  pub shape : (text : List ℕ) (tokens : Tokens) (script : Script) → IsScript text tokens script → HasScriptShape (kinds_of tokens.list)
  pub spelled : (text : List ℕ) (tokens : Tokens) → HasScriptShape (kinds_of tokens.list) → (script : Script) × IsScript text tokens script

-- ---- where tokens cease to begin a script

-- Kinds begin a script: with a finishing list behind them they have the shape of one.
abbrev pub BeginsScript : List TokenKind → Type 0
BeginsScript ks = (finish : List TokenKind) × HasScriptShape (ks ++ finish)

-- A token, by its number, is dead: the kinds up to it begin no script.
abbrev pub IsDead : List TokenKind → ℕ → Type 0
IsDead ks n = BeginsScript (take (suc n) ks) → ⊥

-- No token before this number is dead.
abbrev pub LivesTo : List TokenKind → ℕ → Type 0
LivesTo ks n = (m : ℕ) → m < n → BeginsScript (take (suc m) ks)

-- the first dead token
pub record IsLeastDead (ks : List TokenKind) (n : ℕ) : Type 0 where
  pub within : n < length ks
  pub dead : IsDead ks n
  pub before : LivesTo ks n

-- No token is dead, and the kinds are no script.
pub record IsUnfinished (ks : List TokenKind) (n : ℕ) : Type 0 where
  pub all : n ≡ length ks
  pub before : LivesTo ks n
  pub none : HasScriptShape ks → ⊥

-- ---- why tokens give no script

-- the place of a token by its number, or the end
abbrev pub place_or : Option Token → Place → Place
place_or None end = end
place_or (Some t) end = t.place

abbrev pub place_of : Tokens → ℕ → Place
place_of tokens n = place_or (slice_get tokens.list n) tokens.end

-- No token up to this number nests deeper than 64.
abbrev pub IsShallowTo : List TokenKind → ℕ → Type 0
IsShallowTo ks n = (m : ℕ) → m ≤ n → m < length ks → nesting_at ks m ≤ NESTING_MAX

-- a fault of syntax at this number of a token
pub record IsSyntaxFault (ks : List TokenKind) (n : ℕ) : Type 0 where
  pub fault : IsLeastDead ks n ⊎ IsUnfinished ks n
  pub shallow : IsShallowTo ks n

-- The first token that nests too deep, with none before it dead.
pub record IsTooDeep (ks : List TokenKind) (n : ℕ) : Type 0 where
  pub deep : IsFirstDeep ks n
  pub before : LivesTo ks n

-- why tokens give no script; want of memory says nothing of them
abbrev pub HasFault : Tokens → ParseFault → Type 0
HasFault tokens (Syntax n place) = IsSyntaxFault (kinds_of tokens.list) n × (place ≡ place_of tokens n)
HasFault tokens (TooDeep place) = (n : ℕ) × IsTooDeep (kinds_of tokens.list) n × (place ≡ place_of tokens n)
HasFault tokens Memory = Unit {0}

-- what is told of the tokens of a text
abbrev pub IsAnswer : List ℕ → Tokens → Result Script ParseFault → Type 0
IsAnswer text tokens (Ok script) = IsScript text tokens script × IsShallow (kinds_of tokens.list)
IsAnswer text tokens (Err fault) = HasFault tokens fault × (fault ≢ Memory)

-- The tokens of a text have one answer.
abbrev pub HasOneAnswer : Type 0
HasOneAnswer = (text : List ℕ) (tokens : Tokens) (a b : Result Script ParseFault) → IsAnswer text tokens a → IsAnswer text tokens b → a ≡ b
