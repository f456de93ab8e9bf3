-- The kinds of tokens.
use Rattle.std.proofs.Common.{◌≡◌, suc, List, [], ◌∷◌, length, refl, ap, ◌∙◌}
use Rattle.sgl_lexer.specs.declared.lexeme.Token.{Token}
use Rattle.sgl_lexer.specs.declared.lexeme.TokenKind.{TokenKind}
use Rattle.sgl_parser.specs.Breaks.{NotAt}
use Rattle.sgl_parser.specs.Follow.{IsNotAt}
use Rattle.sgl_parser.specs.Shape.{kinds_of}

pub kinds-length : (ts : List Token) → length (kinds_of ts) ≡ length ts
kinds-length [] = refl
kinds-length (t ∷ ts) = ap suc (kinds-length ts)

-- the kinds of a list that begins with a token
pub kinds_at : {t : Token} {k : TokenKind} {ts us : List Token} → ts ≡ t ∷ us → t.kind ≡ k → kinds_of ts ≡ k ∷ kinds_of us
kinds_at {us = us} list kind = ap kinds_of list ∙ ap (λ l. l ∷ kinds_of us) kind

pub not_at_kinds : (k : TokenKind) (ts : List Token) → IsNotAt k ts → NotAt k (kinds_of ts)
not_at_kinds k [] n = tt
not_at_kinds k (t ∷ ts) n = n
