-- Random numbers as parts that are put together.
use Rattle.std.proofs.Common.{◌≡◌, ℕ, true, List, [], ◌∷◌, sym, refl, ap, subst, ◌∙◌}
use Rattle.sgl_lexer.specs.declared.lexeme.Token.{Token}
use Rattle.sgl_lexer.specs.declared.lexeme.TokenKind.{TokenKind}
use Rattle.sgl_lexer.specs.declared.lexeme.TokenKind.TheVariants as kinds
use Rattle.sgl_lexer.specs.declared.vocabulary.Word.TheVariants as words
use Rattle.sgl_lexer.specs.declared.vocabulary.Sign.TheVariants as signs
use Rattle.sgl_parser.specs.Breaks.{Relation, Agrees, Breaks, Passes, Then, OneOf, done}
use Rattle.sgl_parser.specs.Grammar.{Primary}
use Rattle.sgl_parser.specs.ItemShape.{Last}
use Rattle.sgl_parser.specs.Operators.{is_number}
use Rattle.sgl_parser.specs.Shape.{Shape, StopsAt, Fails, kinds_of, a_literal, a_random}
use Rattle.sgl_parser.proofs.Blocks.{at_last}
use Rattle.sgl_parser.proofs.Fronts.{Passed}
use Rattle.sgl_parser.proofs.Sequences.{Same, same_breaks, same_passes, then_breaks, then_passes}
use Rattle.sgl_parser.proofs.TokenKinds.{kinds_at}

-- "random" "(" NUMBER ")"
abbrev pub RandomShape : Relation
RandomShape = Then (kinds.Word words.Random) (Then (kinds.Sign signs.ParenOpen) (OneOf is_number (Last signs.ParenClose)))

pub number_of : (k : TokenKind) → is_number k ≡ true → (n : ℕ) × (k ≡ kinds.Number n)
number_of (kinds.Number n) h = (n, refl)
number_of _ h = absurd (cc)

random_into : {ks ls : List TokenKind} → RandomShape ks ls → Shape Primary ks ls
random_into {ks} {ls} q =
    let p = q.behind in
    let n = p.behind in
    let i = number_of n.kind n.of in
    let list : ks ≡ kinds.Word words.Random ∷ kinds.Sign signs.ParenOpen ∷ kinds.Number i.0 ∷ kinds.Sign signs.ParenClose ∷ ls =
    q.list ∙ ap (λ l. kinds.Word words.Random ∷ l) (p.list ∙ ap (λ l. kinds.Sign signs.ParenOpen ∷ l) (n.list ∙ ap (λ l. n.kind ∷ l) (at_last n.behind) ∙ ap (λ w. w ∷ kinds.Sign signs.ParenClose ∷ ls) i.1)) in
    subst (λ l. Shape Primary l ls) (sym list) a_random

random_out : {ks ls : List TokenKind} → Shape Primary (kinds.Word words.Random ∷ ks) ls → RandomShape (kinds.Word words.Random ∷ ks) ls
random_out (a_literal h) = absurd (cc)
random_out (a_random {n} {ks}) = record {
  rest = kinds.Sign signs.ParenOpen ∷ kinds.Number n ∷ kinds.Sign signs.ParenClose ∷ ks;
  list = refl;
  behind = record {
    rest = kinds.Number n ∷ kinds.Sign signs.ParenClose ∷ ks;
    list = refl;
    behind = record {
      kind = kinds.Number n;
      rest = kinds.Sign signs.ParenClose ∷ ks;
      list = refl;
      of = refl;
      behind = record { rest = ks; list = refl; behind = done };
    };
  };
}

begins_random : (ks zs to : List TokenKind) → Agrees (kinds.Word words.Random ∷ ks) zs → Shape Primary zs to → RandomShape zs to
begins_random ks [] to a q = absurd a
begins_random ks (z ∷ zs) to a q = subst (λ w. RandomShape (w ∷ zs) to) a (random_out (subst (λ w. Shape Primary (w ∷ zs) to) (sym a) q))

pub random_same : (ks : List TokenKind) → Same (Shape Primary) RandomShape (kinds.Word words.Random ∷ ks)
random_same ks = record { into = λ zs to q. random_into q; out = begins_random ks }

module _ (t : Token) (ts : List Token) (word : t.kind ≡ kinds.Word words.Random) where
  at_word : kinds_of (t ∷ ts) ≡ kinds.Word words.Random ∷ kinds_of ts
  at_word = kinds_at {t = t} refl word

  -- behind the word
  pub random_breaks : (n : ℕ) → Breaks (Then (kinds.Sign signs.ParenOpen) (OneOf is_number (Last signs.ParenClose))) (StopsAt Primary) (kinds_of ts) n → Fails Primary (kinds_of (t ∷ ts)) n
  random_breaks n f = subst (λ l. Fails Primary l n) (sym at_word) (same_breaks (random_same (kinds_of ts)) n (then_breaks n f))

  pub random_passed : {rest : List TokenKind} → Passes (Then (kinds.Sign signs.ParenOpen) (OneOf is_number (Last signs.ParenClose))) (StopsAt Primary) (kinds_of ts) rest → Passed Primary (kinds_of (t ∷ ts)) rest
  random_passed {rest} p = subst (λ l. Passed Primary l rest) (sym at_word) (same_passes (random_same (kinds_of ts)) (then_passes p))
