-- The tokens of a text are slices of it.
use Rattle.std.proofs.Common.{ℕ, ◌+◌, ◌≤◌, List, [], ◌∷◌, length, min, arith}
use Rattle.std.proofs.lemmas.List.{length-drop}
use Rattle.sgl_lexer.specs.declared.lexeme.Token.{Token}
use Rattle.sgl_lexer.specs.Lexing.{Ending, Stands, LexesFrom, Lexes, mark_len}
use Rattle.sgl_lexer.specs.Slices.{IsSliceOf, AreSlicesOf}

-- a token of a text is a slice of it
pub token_within : {text : List ℕ} {from : ℕ} {t : Token} → Stands text from t → IsSliceOf text t
token_within {text} {from} {t} s = record {
  starts = s.ends;
  ends = omega (arith, s.ends, s.longest.within, length-drop t.start text);
  kind = s.longest.token;
  fits = s.fits;
}

tokens_within_from : (text : List ℕ) (from : ℕ) (tokens : List Token) (ending : Ending) → LexesFrom text from tokens ending → AreSlicesOf text tokens
tokens_within_from text from [] ending h = tt
tokens_within_from text from (t ∷ ts) ending h = (token_within h.0, tokens_within_from text t.end ts ending h.1)

-- all tokens of a text are slices of it
pub tokens_within : (text : List ℕ) (tokens : List Token) (ending : Ending) → Lexes text tokens ending → AreSlicesOf text tokens
tokens_within text tokens ending h = tokens_within_from text (mark_len text) tokens ending h

tokens_few_from : (text : List ℕ) (from : ℕ) (tokens : List Token) (ending : Ending) → LexesFrom text from tokens ending → length tokens + min from (length text) ≤ length text
tokens_few_from text from [] ending h = omega arith
tokens_few_from text from (t ∷ ts) ending h =
    let slice = token_within h.0 in
    omega (arith, slice.starts, slice.ends, h.0.starts, tokens_few_from text t.end ts ending h.1)

-- a text has no more tokens than bytes
pub tokens_few : (text : List ℕ) (tokens : List Token) (ending : Ending) → Lexes text tokens ending → length tokens ≤ length text
tokens_few text tokens ending h = omega (arith, tokens_few_from text (mark_len text) tokens ending h)
