-- Kinds of tokens have one shape, and a shape is of its front alone.
use Rattle.std.proofs.Common.{◌≡◌, ℕ, true, false, List, [], ◌∷◌, ◌++◌, Some, map, sym, refl, ap, subst, ◌∙◌, append_assoc}
use Rattle.sgl_values.specs.declared.place.Place.{Place}
use Rattle.sgl_lexer.specs.declared.lexeme.Token.{Token}
use Rattle.sgl_lexer.specs.declared.lexeme.TokenKind.{TokenKind}
use Rattle.sgl_lexer.specs.declared.lexeme.TokenKind.TheVariants as kinds
use Rattle.sgl_lexer.specs.declared.vocabulary.Word.TheVariants as words
use Rattle.sgl_lexer.specs.declared.vocabulary.Sign.TheVariants as signs
use Rattle.sgl_values.specs.declared.operator.BinOp.TheVariants as ops
use Rattle.sgl_parser.specs.declared.precedence.Chain.{Chain}
use Rattle.sgl_tree.specs.declared.expression.Expr.{Expr}
use Rattle.sgl_tree.specs.declared.expression.Expr.TheVariants as trees
use Rattle.sgl_parser.specs.Grammar.{Part, Chained, Negation, Comparison, Unary, Primary, sum, expression, operand, name_of, literal, Spells, Continues, SpellsArguments}
use Rattle.sgl_parser.specs.Grammar as grammar
use Rattle.sgl_parser.specs.Follow.{Stops}
use Rattle.sgl_parser.specs.Shape.{Shape, GoesOn, Arguments, is_literal, kinds_of, StopsAt, chained, negated, not_negated, compared, not_compared, minus, no_minus, a_literal, a_local, a_field, a_call, a_random, bracketed, ends, goes_on, no_more, one_more}
use Rattle.sgl_parser.specs.Operators.{operator, comparison}
use Rattle.sgl_parser.proofs.Unique.{unique, first, begins}

-- a token of a kind, which stands nowhere
abbrev pub token : TokenKind → Token
token k = record { kind = k; start = 0; end = 0; place = record { line = 0; col = 0 } }

abbrev pub tokens : List TokenKind → List Token
tokens ks = map token ks

kinds_of-tokens : (ks : List TokenKind) → kinds_of (tokens ks) ≡ ks
kinds_of-tokens [] = refl
kinds_of-tokens (k ∷ ks) = ap (λ l. k ∷ l) (kinds_of-tokens ks)

literal_some : (k : TokenKind) (p : Place) → is_literal k ≡ true → (e : Expr) × (literal k p ≡ Some e)
literal_some (kinds.Number n) p h = (trees.Number n p, refl)
literal_some (kinds.Word words.True) p h = (trees.Truth true p, refl)
literal_some (kinds.Word words.False) p h = (trees.Truth false p, refl)
literal_some _ p h = absurd (cc)

pub some_literal : (k : TokenKind) (p : Place) (e : Expr) → literal k p ≡ Some e → is_literal k ≡ true
some_literal (kinds.Number n) p e h = refl
some_literal (kinds.Word words.True) p e h = refl
some_literal (kinds.Word words.False) p e h = refl
some_literal _ p e h = absurd (cc)

-- a list whose kinds begin so begins with a token of that kind
pub first_token : {k : TokenKind} {ks : List TokenKind} (ts : List Token) → kinds_of ts ≡ k ∷ ks → (t : Token) × (us : List Token) × (ts ≡ t ∷ us) × (t.kind ≡ k) × (kinds_of us ≡ ks)
first_token [] e = absurd (cc)
first_token (t ∷ ts) e = (t, ts, refl, cc, cc)

mutual
  -- tokens of these kinds spell a tree
  pub spelled : (text : List ℕ) {part : Part} {ks ls : List TokenKind} → Shape part ks ls → (ts : List Token) → kinds_of ts ≡ ks → (us : List Token) × (kinds_of us ≡ ls) × (e : Expr) × Spells text part ts us e
  spelled text (chained p q) ts h = let x = spelled text p ts h in let y = spelled_chain text q x.0 x.1 x.2 in (y.0, y.1, y.2, grammar.chained x.3 y.3)
  spelled text (negated p) ts h =
      let f = first_token ts h in
      let x = spelled text p f.1 f.4 in
      (x.0, x.1, trees.Not x.2 f.0.place, subst (λ l. Spells text Negation l x.0 (trees.Not x.2 f.0.place)) (sym f.2) (grammar.negated f.3 x.3))
  spelled text (not_negated p) ts h = let x = spelled text p ts h in (x.0, x.1, x.2, grammar.not_negated x.3)
  spelled text (compared {k} {op} p e q) ts h =
      let x = spelled text p ts h in
      let f = first_token x.0 x.1 in
      let y = spelled text q f.1 f.4 in
      (y.0, y.1, trees.Binary (ops.Cmp op) x.2 y.2 f.0.place, grammar.compared (subst (λ l. Spells text sum ts l x.2) f.2 x.3) (ap comparison f.3 ∙ e) y.3)
  spelled text (not_compared p) ts h = let x = spelled text p ts h in (x.0, x.1, x.2, grammar.not_compared x.3)
  spelled text (minus p) ts h =
      let f = first_token ts h in
      let x = spelled text p f.1 f.4 in
      (x.0, x.1, trees.Neg x.2 f.0.place, subst (λ l. Spells text Unary l x.0 (trees.Neg x.2 f.0.place)) (sym f.2) (grammar.minus f.3 x.3))
  spelled text (no_minus p) ts h = let x = spelled text p ts h in (x.0, x.1, x.2, grammar.no_minus x.3)
  spelled text (a_literal {k} i) ts h =
      let f = first_token ts h in
      let x = literal_some f.0.kind f.0.place (ap is_literal f.3 ∙ i) in
      (f.1, f.4, x.0, subst (λ l. Spells text Primary l f.1 x.0) (sym f.2) (grammar.a_literal x.1))
  spelled text a_local ts h =
      let f = first_token ts h in
      let e = trees.Local (name_of text f.0) in
      (f.1, f.4, e, subst (λ l. Spells text Primary l f.1 e) (sym f.2) (grammar.a_local f.3))
  spelled text a_field ts h =
      let f = first_token ts h in
      let g = first_token f.1 f.4 in
      let i = first_token g.1 g.4 in
      let e = trees.Field (name_of text f.0) (name_of text i.0) in
      (i.1, i.4, e, subst (λ l. Spells text Primary l i.1 e) (sym (f.2 ∙ ap (λ l. f.0 ∷ l) (g.2 ∙ ap (λ l. g.0 ∷ l) i.2))) (grammar.a_field f.3 g.3 i.3))
  spelled text (a_call p) ts h =
      let f = first_token ts h in
      let g = first_token f.1 f.4 in
      let i = first_token g.1 g.4 in
      let x = spelled_arguments text p i.1 i.4 in
      let j = first_token x.0 x.1 in
      let e = trees.Call (name_of text f.0) (name_of text i.0) x.2 in
      (j.1, j.4, e, subst (λ l. Spells text Primary l j.1 e) (sym (f.2 ∙ ap (λ l. f.0 ∷ l) (g.2 ∙ ap (λ l. g.0 ∷ l) i.2))) (grammar.a_call f.3 g.3 i.3 (subst (λ l. SpellsArguments text i.1 l x.2) j.2 x.3) j.3))
  spelled text (a_random {n}) ts h =
      let f = first_token ts h in
      let g = first_token f.1 f.4 in
      let i = first_token g.1 g.4 in
      let j = first_token i.1 i.4 in
      let e = trees.Random f.0.place n i.0.place in
      (j.1, j.4, e, subst (λ l. Spells text Primary l j.1 e) (sym (f.2 ∙ ap (λ l. f.0 ∷ l) (g.2 ∙ ap (λ l. g.0 ∷ l) (i.2 ∙ ap (λ l. i.0 ∷ l) j.2)))) (grammar.a_random f.3 g.3 i.3 j.3))
  spelled text (bracketed p) ts h =
      let f = first_token ts h in
      let x = spelled text p f.1 f.4 in
      let j = first_token x.0 x.1 in
      (j.1, j.4, x.2, subst (λ l. Spells text Primary l j.1 x.2) (sym f.2) (grammar.bracketed f.3 (subst (λ l. Spells text expression f.1 l x.2) j.2 x.3) j.3))

  spelled_chain : (text : List ℕ) {c : Chain} {ks ls : List TokenKind} → GoesOn c ks ls → (ts : List Token) → kinds_of ts ≡ ks → (x : Expr) → (us : List Token) × (kinds_of us ≡ ls) × (e : Expr) × Continues text c x ts us e
  spelled_chain text ends ts h x = (ts, h, x, grammar.ends)
  spelled_chain text (goes_on {c} {k} {op} i p q) ts h x =
      let f = first_token ts h in
      let y = spelled text p f.1 f.4 in
      let z = spelled_chain text q y.0 y.1 (trees.Binary op x y.2 f.0.place) in
      (z.0, z.1, z.2, subst (λ l. Continues text c x l z.0 z.2) (sym f.2) (grammar.goes_on (ap (operator c) f.3 ∙ i) y.3 z.3))

  pub spelled_arguments : (text : List ℕ) {ks ls : List TokenKind} → Arguments ks ls → (ts : List Token) → kinds_of ts ≡ ks → (us : List Token) × (kinds_of us ≡ ls) × (es : List Expr) × SpellsArguments text ts us es
  spelled_arguments text no_more ts h = (ts, h, [], grammar.no_more)
  spelled_arguments text (one_more p q) ts h =
      let f = first_token ts h in
      let x = spelled text p f.1 f.4 in
      let y = spelled_arguments text q x.0 x.1 in
      (y.0, y.1, x.2 ∷ y.2, subst (λ l. SpellsArguments text l y.0 (x.2 ∷ y.2)) (sym f.2) (grammar.one_more f.3 x.3 y.3))

-- the first kind of a shape
pub first_kind : {part : Part} {k : TokenKind} {ks ls : List TokenKind} → Shape part (k ∷ ks) ls → begins part k ≡ true
first_kind {k = k} {ks = ks} p = first (spelled [] p (tokens (k ∷ ks)) (kinds_of-tokens (k ∷ ks))).3

pub no_empty_shape : {part : Part} {ls : List TokenKind} → Shape part [] ls → ⊥
no_empty_shape p = first (spelled [] p [] refl).3

stops_of_kinds : (part : Part) (ts : List Token) {ks : List TokenKind} → kinds_of ts ≡ ks → StopsAt part ks → Stops part ts
stops_of_kinds part [] e s = tt
stops_of_kinds part (t ∷ ts) e s = subst (StopsAt part) (sym e) s

-- a part ends at one place
pub unique_shape : {part : Part} {ks ls ms : List TokenKind} → Shape part ks ls → Shape part ks ms → StopsAt part ls → StopsAt part ms → ls ≡ ms
unique_shape {part} {ks} {ls} {ms} p q s s' =
    let x = spelled [] p (tokens ks) (kinds_of-tokens ks) in
    let y = spelled [] q (tokens ks) (kinds_of-tokens ks) in
    let same = unique x.3 y.3 (stops_of_kinds part x.0 x.1 s) (stops_of_kinds part y.0 y.1 s') in
    sym x.1 ∙ ap kinds_of same.0 ∙ y.1

module _ {text : List ℕ} where
  mutual
    -- what spells a term has the shape
    pub shape_of : {part : Part} {ts us : List Token} {e : Expr} → Spells text part ts us e → Shape part (kinds_of ts) (kinds_of us)
    shape_of (grammar.chained p q) = chained (shape_of p) (shape_of_chain q)
    shape_of (grammar.negated {t} {ts} {us} k p) = subst (λ l. Shape Negation (l ∷ kinds_of ts) (kinds_of us)) (sym k) (negated (shape_of p))
    shape_of (grammar.not_negated p) = not_negated (shape_of p)
    shape_of (grammar.compared p e q) = compared (shape_of p) e (shape_of q)
    shape_of (grammar.not_compared p) = not_compared (shape_of p)
    shape_of (grammar.minus {t} {ts} {us} k p) = subst (λ l. Shape Unary (l ∷ kinds_of ts) (kinds_of us)) (sym k) (minus (shape_of p))
    shape_of (grammar.no_minus p) = no_minus (shape_of p)
    shape_of (grammar.a_literal {t} {us} {e} h) = a_literal (some_literal t.kind t.place e h)
    shape_of (grammar.a_local {t} {us} k) = subst (λ l. Shape Primary (l ∷ kinds_of us) (kinds_of us)) (sym k) a_local
    shape_of (grammar.a_field {t} {d} {n} {us} k h i) =
        rw (k, h, i) a_field
    shape_of (grammar.a_call {t} {o} {u} {c} {ts} {us} k h i args shuts) = rw (k, h, i) (a_call (rw shuts at (shape_of_arguments args)))
    shape_of (grammar.a_random {t} {o} {n} {c} {us = us} k h i shuts) = rw (k, h, i, shuts) a_random
    shape_of (grammar.bracketed {o} {c} {ts} {us} k p shuts) = rw k (bracketed (rw shuts at (shape_of p)))

    shape_of_chain : {c : Chain} {x e : Expr} {ts us : List Token} → Continues text c x ts us e → GoesOn c (kinds_of ts) (kinds_of us)
    shape_of_chain grammar.ends = ends
    shape_of_chain (grammar.goes_on h p q) = goes_on h (shape_of p) (shape_of_chain q)

    pub shape_of_arguments : {ts us : List Token} {es : List Expr} → SpellsArguments text ts us es → Arguments (kinds_of ts) (kinds_of us)
    shape_of_arguments grammar.no_more = no_more
    shape_of_arguments (grammar.one_more {t} {ts} {us} {vs} k p q) = subst (λ l. Arguments (l ∷ kinds_of ts) (kinds_of vs)) (sym k) (one_more (shape_of p) (shape_of_arguments q))

mutual
  -- a shape is of its front, whatever follows
  pub moved : {part : Part} {ks ls : List TokenKind} → Shape part ks ls → (front : List TokenKind) × (ks ≡ front ++ ls) × ((zs : List TokenKind) → Shape part (front ++ zs) zs)
  moved (chained {c} {ks} {ls} {ms} p q) =
      let f = moved p in
      let g = moved_chain q in
      (f.0 ++ g.0, f.1 ∙ ap (λ l. f.0 ++ l) g.1 ∙ sym (append_assoc f.0 g.0 ms), λ zs. subst (λ l. Shape (Chained c) l zs) (sym (append_assoc f.0 g.0 zs)) (chained (f.2 (g.0 ++ zs)) (g.2 zs)))
  moved (negated p) = let f = moved p in (kinds.Word words.Not ∷ f.0, ap (λ l. kinds.Word words.Not ∷ l) f.1, λ zs. negated (f.2 zs))
  moved (not_negated p) = let f = moved p in (f.0, f.1, λ zs. not_negated (f.2 zs))
  moved (compared {k} {op} {ks} {ls} {ms} p e q) =
      let f = moved p in
      let g = moved q in
      (f.0 ++ (k ∷ g.0), f.1 ∙ ap (λ l. f.0 ++ (k ∷ l)) g.1 ∙ sym (append_assoc f.0 (k ∷ g.0) ms), λ zs. subst (λ l. Shape Comparison l zs) (sym (append_assoc f.0 (k ∷ g.0) zs)) (compared (f.2 (k ∷ (g.0 ++ zs))) e (g.2 zs)))
  moved (not_compared p) = let f = moved p in (f.0, f.1, λ zs. not_compared (f.2 zs))
  moved (minus p) = let f = moved p in (kinds.Sign signs.Minus ∷ f.0, ap (λ l. kinds.Sign signs.Minus ∷ l) f.1, λ zs. minus (f.2 zs))
  moved (no_minus p) = let f = moved p in (f.0, f.1, λ zs. no_minus (f.2 zs))
  moved (a_literal {k} h) = (k ∷ [], refl, λ zs. a_literal h)
  moved a_local = (kinds.Name ∷ [], refl, λ zs. a_local)
  moved a_field = (kinds.Name ∷ kinds.Sign signs.Dot ∷ kinds.Name ∷ [], refl, λ zs. a_field)
  moved (a_call {ks} {ls} p) =
      let f = moved_arguments p in
      let shut = kinds.Sign signs.ParenClose in (
        kinds.Name ∷ kinds.Sign signs.ParenOpen ∷ kinds.Name ∷ (f.0 ++ shut ∷ []),
        ap (λ l. kinds.Name ∷ kinds.Sign signs.ParenOpen ∷ kinds.Name ∷ l) (f.1 ∙ sym (append_assoc f.0 (shut ∷ []) ls)),
        λ zs. subst (λ l. Shape Primary (kinds.Name ∷ kinds.Sign signs.ParenOpen ∷ kinds.Name ∷ l) zs) (sym (append_assoc f.0 (shut ∷ []) zs)) (a_call (f.2 (shut ∷ zs))),
      )
  moved (a_random {n}) = (kinds.Word words.Random ∷ kinds.Sign signs.ParenOpen ∷ kinds.Number n ∷ kinds.Sign signs.ParenClose ∷ [], refl, λ zs. a_random)
  moved (bracketed {ks} {ls} p) =
      let f = moved p in
      let shut = kinds.Sign signs.ParenClose in (
        kinds.Sign signs.ParenOpen ∷ (f.0 ++ shut ∷ []),
        ap (λ l. kinds.Sign signs.ParenOpen ∷ l) (f.1 ∙ sym (append_assoc f.0 (shut ∷ []) ls)),
        λ zs. subst (λ l. Shape Primary (kinds.Sign signs.ParenOpen ∷ l) zs) (sym (append_assoc f.0 (shut ∷ []) zs)) (bracketed (f.2 (shut ∷ zs))),
      )

  pub moved_chain : {c : Chain} {ks ls : List TokenKind} → GoesOn c ks ls → (front : List TokenKind) × (ks ≡ front ++ ls) × ((zs : List TokenKind) → GoesOn c (front ++ zs) zs)
  moved_chain ends = ([], refl, λ zs. ends)
  moved_chain (goes_on {c} {k} {op} {ks} {ls} {ms} h p q) =
      let f = moved p in
      let g = moved_chain q in
      (k ∷ (f.0 ++ g.0), ap (λ l. k ∷ l) (f.1 ∙ ap (λ l. f.0 ++ l) g.1 ∙ sym (append_assoc f.0 g.0 ms)), λ zs. subst (λ l. GoesOn c (k ∷ l) zs) (sym (append_assoc f.0 g.0 zs)) (goes_on h (f.2 (g.0 ++ zs)) (g.2 zs)))

  pub moved_arguments : {ks ls : List TokenKind} → Arguments ks ls → (front : List TokenKind) × (ks ≡ front ++ ls) × ((zs : List TokenKind) → Arguments (front ++ zs) zs)
  moved_arguments no_more = ([], refl, λ zs. no_more)
  moved_arguments (one_more {ks} {ls} {ms} p q) =
      let f = moved p in
      let g = moved_arguments q in
      let comma = kinds.Sign signs.Comma in
      (comma ∷ (f.0 ++ g.0), ap (λ l. comma ∷ l) (f.1 ∙ ap (λ l. f.0 ++ l) g.1 ∙ sym (append_assoc f.0 g.0 ms)), λ zs. subst (λ l. Arguments (comma ∷ l) zs) (sym (append_assoc f.0 g.0 zs)) (one_more (f.2 (g.0 ++ zs)) (g.2 zs)))
