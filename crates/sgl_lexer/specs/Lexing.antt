-- How a text is cut into tokens.
use Rattle.std.specs.Prelude.{◌≡◌, ℕ, suc, ◌+◌, ◌-◌, ◌<◌, ◌≤◌, ◌==◌, ◌||◌, Bool, List, [], ◌∷◌, length, take, drop, if◌then◌else◌}
use Rattle.sgl_values.specs.declared.place.Place.{Place}
use Rattle.sgl_lexer.specs.declared.lexeme.Token.{Token}
use Rattle.sgl_lexer.specs.declared.lexeme.Tokens.{Tokens}
use Rattle.sgl_lexer.specs.declared.lexeme.TokenKind.{TokenKind}
use Rattle.sgl_lexer.specs.declared.lexeme.TokenKind.TheVariants as kinds
use Rattle.sgl_lexer.specs.declared.fault.LexFault.{LexFault}
use Rattle.sgl_lexer.specs.declared.fault.LexFault.TheVariants.{BadByte, LongName, LongNumber, Memory}
use Rattle.sgl_lexer.specs.Places.{place_after}
use Rattle.sgl_lexer.specs.Kinds.{IsLongest, IsNoToken, IsNameText, IsNumberText}
use Rattle.sgl_values.specs.declared.limit.TheConstants.{NAME_BYTES_MAX, NUMBER_DIGITS_MAX}

-- a space, a tab, a line feed or a carriage return
abbrev pub is_blank : ℕ → Bool
is_blank b = (b == 32) || (b == 9) || (b == 10) || (b == 13)

-- How many bytes of blanks and comments stand at the front. A comment runs from byte 35 to the next line feed or the end.
abbrev mutual
  pub gap_len : List ℕ → ℕ
  gap_len [] = 0
  gap_len (b ∷ bs) = if b == 35 then suc (comment_len bs) else (if is_blank b then suc (gap_len bs) else 0)

  pub comment_len : List ℕ → ℕ
  comment_len [] = 0
  comment_len (b ∷ bs) = if b == 10 then suc (gap_len bs) else suc (comment_len bs)

-- The three bytes EF BB BF at the very start of a text are skipped.
abbrev pub mark_len : List ℕ → ℕ
mark_len (a ∷ b ∷ c ∷ rest) = if (a == 239) then (if b == 187 then (if c == 191 then 3 else 0) else 0) else 0
mark_len _ = 0

-- where a text starts
abbrev pub start : Place
start = record { line = 1; col = 1 }

-- the place of a byte, counted behind the mark
abbrev pub place_at : List ℕ → ℕ → Place
place_at text n = place_after start (take (n - mark_len text) (drop (mark_len text) text))

-- A kind of token is not too long: a word or name has at most 31 bytes, a number 19.
abbrev pub Fits : TokenKind → ℕ → Type 0
Fits (kinds.Word w) len = len ≤ NAME_BYTES_MAX
Fits kinds.Name len = len ≤ NAME_BYTES_MAX
Fits (kinds.Number n) len = len ≤ NUMBER_DIGITS_MAX
Fits (kinds.Sign s) len = Unit {0}

-- What stands at the front of a text, at this place, is faulty.
abbrev pub IsFaulty : List ℕ → Place → LexFault → Type 0
IsFaulty text p (BadByte q) = (q ≡ p) × (0 < length text) × IsNoToken text
IsFaulty text p (LongName q) =
    (q ≡ p) × (len : ℕ) × (kind : TokenKind) × IsLongest kind len text × IsNameText (take len text) × (NAME_BYTES_MAX < len)
IsFaulty text p (LongNumber q) =
    (q ≡ p) × (len : ℕ) × (kind : TokenKind) × IsLongest kind len text × IsNumberText (take len text) × (NUMBER_DIGITS_MAX < len)
IsFaulty text p Memory = ⊥

-- How a text ends: whole, or with a fault.
pub data Ending : Type 0 where
  Whole : (end : Place) → Ending
  Faulty : (fault : LexFault) → Ending

-- where the blanks and comments end that begin at a byte
abbrev pub behind_gap : List ℕ → ℕ → ℕ
behind_gap text from = from + gap_len (drop from text)

-- No token that fits stands behind the gap at a byte.
abbrev pub Ends : List ℕ → ℕ → Ending → Type 0
Ends text from (Whole end) = (behind_gap text from ≡ length text) × (end ≡ place_at text (length text))
Ends text from (Faulty fault) =
    IsFaulty (drop (behind_gap text from) text) (place_at text (behind_gap text from)) fault

-- A token is the longest one behind the gap at a byte.
pub record Stands (text : List ℕ) (from : ℕ) (t : Token) : Type 0 where
  pub starts : t.start ≡ behind_gap text from
  pub ends : t.start < t.end
  pub place : t.place ≡ place_at text t.start
  pub longest : IsLongest t.kind (t.end - t.start) (drop t.start text)
  pub fits : Fits t.kind (t.end - t.start)

-- From a byte on a text has these tokens, and then this ending.
abbrev pub LexesFrom : List ℕ → ℕ → List Token → Ending → Type 0
LexesFrom text from [] ending = Ends text from ending
LexesFrom text from (t ∷ ts) ending = Stands text from t × LexesFrom text t.end ts ending

-- The text has these tokens behind its mark, and then this ending.
abbrev pub Lexes : List ℕ → List Token → Ending → Type 0
Lexes text tokens ending = LexesFrom text (mark_len text) tokens ending

-- These are all tokens of a text, with its end.
abbrev pub AreTokensOf : List ℕ → Tokens → Type 0
AreTokensOf text tokens = Lexes text tokens.list (Whole tokens.end)

-- A text has this fault behind tokens that fit. Want of memory is no fault of the text.
abbrev pub HasFault : List ℕ → LexFault → Type 0
HasFault text Memory = Unit {0}
HasFault text fault = (tokens : List Token) × Lexes text tokens (Faulty fault)
