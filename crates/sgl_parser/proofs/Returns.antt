-- What a reading returns that goes as far as its part, or stops where one of its parts does.
use Rattle.std.proofs.Common.{◌≡◌, ℕ, List, ◌∷◌, Result, Ok, Err, length, ap, arith}
use Rattle.std.specs.Result.{IsErrAnd, MatchResult}
use Rattle.sgl_lexer.specs.declared.lexeme.Token.{Token}
use Rattle.sgl_lexer.specs.declared.lexeme.TokenKind.{TokenKind}
use Rattle.sgl_parser.specs.declared.reading.Stop.{Stop}
use Rattle.sgl_parser.specs.declared.reading.Stop.TheVariants as stops
use Rattle.sgl_parser.specs.Breaks.{Relation, Breaks, HasBroken, Then}
use Rattle.sgl_parser.specs.Reads.{IsRead}
use Rattle.sgl_parser.proofs.Parts.{lift_broken, pass_behind}

-- what is read behind a token that has to stand there
pub then_reads : {A B : Type 0} {k : TokenKind} {G : Relation} {E : List TokenKind → Type 0} {least : ℕ} {Part : List Token → List Token → A → Type 0} {Spells : List Token → List Token → B → Type 0} {text : List ℕ} {t : Token} {ts us rest : List Token} {x : A} {y : B} → ts ≡ t ∷ us → t.kind ≡ k → IsRead G E least Part text us rest x → Spells ts rest y → IsRead (Then k G) E 1 Spells text ts rest y
then_reads list kind read spells = record { passes = pass_behind list kind read.passes; spells = spells; shorter = omega (arith, read.shorter, ap length list); of = read.of }

pub stopped : {T : Type 0} (r : Result T Stop) (P : T → Type 0) (Q : Stop → Type 0) (s : Stop) → IsErrAnd r (λ x. x ≡ s) → Q s → MatchResult r P Q
stopped (Ok x) P Q s is q = absurd is
stopped (Err x) P Q s is q = rw is q

module _ {T : Type 0} {H : Relation} {F : List TokenKind → Type 0} {ls : List TokenKind} (r : Result T Stop) (P : T → Type 0) where
  -- where a token has to stand
  pub token_missing : {s : Stop} {n : ℕ} → IsErrAnd r (λ x. x ≡ s) → s ≡ stops.Syntax n → Breaks H F ls n → MatchResult r P (HasBroken H F ls)
  token_missing {s} is missing breaks = stopped r P (HasBroken H F ls) s is (rw missing breaks)

  -- where a part that has to stand there stops
  pub part_broken : {G : Relation} {E : List TokenKind → Type 0} {ks : List TokenKind} (s : Stop) → IsErrAnd r (λ x. x ≡ s) → ((n : ℕ) → Breaks G E ks n → Breaks H F ls n) → HasBroken G E ks s → MatchResult r P (HasBroken H F ls)
  part_broken s is within broken = stopped r P (HasBroken H F ls) s is (lift_broken s within broken)
