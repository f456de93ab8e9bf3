-- A part that may be left out: it is, or it stands behind its first token.
use Rattle.std.proofs.Common.{◌≡◌, ℕ, ◌≤◌, List, ◌∷◌, length, ap, arith}
use Rattle.sgl_lexer.specs.declared.lexeme.Token.{Token}
use Rattle.sgl_lexer.specs.declared.lexeme.TokenKind.{TokenKind}
use Rattle.sgl_lexer.specs.Slices.{AreSlicesOf}
use Rattle.sgl_parser.specs.Breaks.{Relation, Breaks, Passes, Then, Maybe}
use Rattle.sgl_parser.specs.Reads.{IsRead}
use Rattle.sgl_parser.specs.Shape.{kinds_of}
use Rattle.sgl_parser.proofs.Parts.{behind, pass_behind, goes_at}
use Rattle.sgl_parser.proofs.Sequences.{Excludes, omitted_passes, given_breaks, given_passes}

-- No token of it is read.
pub omitted_reads : {A : Type 0} {G : Relation} {MayEnd : List TokenKind → Type 0} {Spells : List Token → List Token → A → Type 0} {text : List ℕ} {ts : List Token} {x : A} → Excludes G (kinds_of ts) → Spells ts ts x → AreSlicesOf text ts → IsRead (Maybe G) MayEnd 0 Spells text ts ts x
omitted_reads excludes spells of = record { passes = omitted_passes excludes; spells = spells; shorter = omega arith; of = of }

-- Its first token stands there, with which nothing begins that may stand behind the part.
module _ (MayEnd : List TokenKind → Type 0) (k : TokenKind) (no_end : (zs : List TokenKind) → MayEnd (k ∷ zs) → ⊥) {G : Relation} {t : Token} {ts us : List Token} (list : ts ≡ t ∷ us) (kind : t.kind ≡ k) where
  pub stands_passes : {rest : List TokenKind} → Passes G MayEnd (kinds_of us) rest → Passes (Maybe (Then k G)) MayEnd (kinds_of ts) rest
  stands_passes p = given_passes (goes_at MayEnd k no_end list kind) (pass_behind list kind p)

  pub stands_breaks : (n : ℕ) → Breaks G MayEnd (kinds_of us) n → Breaks (Maybe (Then k G)) MayEnd (kinds_of ts) n
  stands_breaks n f = given_breaks (goes_at MayEnd k no_end list kind) n (behind n list kind f)

  pub stands_reads : {A : Type 0} {Spells : List Token → List Token → A → Type 0} {text : List ℕ} {rest : List Token} {x : A} → Passes G MayEnd (kinds_of us) (kinds_of rest) → Spells ts rest x → length rest ≤ length us → AreSlicesOf text rest → IsRead (Maybe (Then k G)) MayEnd 0 Spells text ts rest x
  stands_reads p spells shorter of = record { passes = stands_passes p; spells = spells; shorter = omega (arith, shorter, ap length list); of = of }
