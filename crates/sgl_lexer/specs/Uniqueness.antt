-- A text is cut into tokens in one way.
use Rattle.std.specs.Prelude.{◌≡◌, ℕ, List}
use Rattle.sgl_lexer.specs.declared.lexeme.Token.{Token}
use Rattle.sgl_lexer.specs.Lexing.{Ending, Lexes}

-- Two lists of tokens of one text are one list, and so are their endings.
abbrev pub HasOneLexing : Type 0
HasOneLexing = (text : List ℕ) (ts us : List Token) (e f : Ending) → Lexes text ts e → Lexes text us f → (ts ≡ us) × (e ≡ f)
