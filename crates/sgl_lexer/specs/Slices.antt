-- Tokens as slices of their text.
use Rattle.std.specs.Prelude.{ℕ, ◌-◌, ◌<◌, ◌≤◌, List, length, take, drop}
use Rattle.std.specs.List.{AllByRecursion}
use Rattle.sgl_lexer.specs.declared.lexeme.Token.{Token}
use Rattle.sgl_lexer.specs.Kinds.{IsOfKind}
use Rattle.sgl_lexer.specs.Lexing.{Fits}

-- A token lies within the text, and its bytes are of its kind and not too many.
pub record IsSliceOf (text : List ℕ) (t : Token) : Type 0 where
  pub starts : t.start < t.end
  pub ends : t.end ≤ length text
  pub kind : IsOfKind (take (t.end - t.start) (drop t.start text)) t.kind
  pub fits : Fits t.kind (t.end - t.start)

-- Each of the tokens does.
abbrev pub AreSlicesOf : List ℕ → List Token → Type 0
AreSlicesOf text tokens = AllByRecursion (IsSliceOf text) tokens
