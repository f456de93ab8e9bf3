-- Where comparisons, names, brackets and calls fail.
use Rattle.std.proofs.Common.{◌≡◌, ◌≢◌, ◌⊎◌, inl, inr, ⊎_elim, ℕ, true, false, List, [], ◌∷◌, ◌++◌, Some, length, sym, refl, ap, subst, ◌∙◌, append_assoc}
use Rattle.sgl_lexer.specs.declared.lexeme.TokenKind.{TokenKind}
use Rattle.sgl_lexer.specs.declared.lexeme.TokenKind.TheVariants as kinds
use Rattle.sgl_lexer.specs.declared.vocabulary.Word.TheVariants as words
use Rattle.sgl_lexer.specs.declared.vocabulary.Sign.TheVariants as signs
use Rattle.sgl_values.specs.declared.operator.CmpOp.{CmpOp}
use Rattle.sgl_parser.specs.Operators.{comparison}
use Rattle.sgl_parser.specs.Grammar.{Part, Comparison, Primary, sum, expression}
use Rattle.sgl_parser.specs.Follow.{continues, opens_more}
use Rattle.sgl_parser.specs.Shape.{Shape, Arguments, is_literal, StopsAt, Fails, Listed, ListFails, compared, not_compared, a_literal, a_local, a_field, a_call, a_random, bracketed, no_more, one_more}
use Rattle.sgl_parser.specs.Breaks.{Agrees, NotAt}
use Rattle.sgl_parser.proofs.Unique.{contrary, apart_comparison, goes_comparison, begins_primary}
use Rattle.sgl_parser.proofs.Shapes.{first_kind, no_empty_shape}
use Rattle.sgl_parser.proofs.Fronts.{Passed, stops_sum}
use Rattle.sgl_parser.proofs.Sequences.{tail_kinds, not_here, within_breaks}

-- what stands in a list's place doesn't stop, if its first kind goes on
no_stop : (part : Part) (k : TokenKind) (ks zs : List TokenKind) → Agrees (k ∷ ks) zs → continues part k ≡ true → StopsAt part zs → ⊥
no_stop part k ks [] a h s = a
no_stop part k ks (z ∷ zs) a h s = contrary h (subst (λ w. continues part w ≡ false) (sym a) s)

no_list : (rest zs to : List TokenKind) → NotAt (kinds.Sign signs.Comma) rest → NotAt (kinds.Sign signs.ParenClose) rest → Agrees rest zs → Arguments zs (kinds.Sign signs.ParenClose ∷ to) → ⊥
no_list rest zs to m n a no_more = not_here (kinds.Sign signs.ParenClose) rest zs to n a refl
no_list rest zs to m n a (one_more {ks = ks} p q) = not_here (kinds.Sign signs.Comma) rest zs ks m a refl

shut_list : {zs to : List TokenKind} → Arguments (kinds.Sign signs.ParenClose ∷ zs) (kinds.Sign signs.ParenClose ∷ to) → to ≡ zs
shut_list no_more = refl

-- ---- comparisons

abbrev Compares : List TokenKind → List TokenKind → Type 0
Compares ks to = (k : TokenKind) × (op : CmpOp) × (ls : List TokenKind) × Shape sum ks (k ∷ ls) × (comparison k ≡ Some op) × Shape sum ls to

invert_comparison : {ks to : List TokenKind} → Shape Comparison ks to → Shape sum ks to ⊎ Compares ks to
invert_comparison (compared {k} {op} {ks} {ls} p e q) = inr (k, op, ls, p, e, q)
invert_comparison (not_compared p) = inl p

pub first_sum_fails : (ks : List TokenKind) (left : ℕ) → Fails sum ks left → Fails Comparison ks left
first_sum_fails ks left f =
    within_breaks (λ zs to p. not_compared p) (λ zs to a q s. ⊎_elim (λ p. (to, p, stops_sum to s)) (λ i. (i.0 ∷ i.2, i.3, apart_comparison i.0 i.1 i.4)) (invert_comparison q)) left f

module _ {ks ls : List TokenKind} {k : TokenKind} {op : CmpOp} (p : Passed sum ks (k ∷ ls)) (h : comparison k ≡ Some op) where
  -- what stands behind the comparison
  behind_comparison : (zs to : List TokenKind) → Shape Comparison (p.front ++ (k ∷ zs)) to → StopsAt Comparison to → Shape sum zs to
  behind_comparison zs to q s =
      ⊎_elim
      (λ i. contrary (goes_comparison k op h) (subst (StopsAt Comparison) (p.only (k ∷ zs) to refl i (stops_sum to s)) s))
      (λ i. let e = p.only (k ∷ zs) (i.0 ∷ i.2) refl i.3 (apart_comparison i.0 i.1 i.4) in subst (λ l. Shape sum l to) (tail_kinds e) i.5)
      (invert_comparison q)

  pub second_sum_fails : (left : ℕ) → Fails sum ls left → Fails Comparison ks left
  second_sum_fails left f = record {
    front = p.front ++ (k ∷ f.front);
    behind = f.behind;
    split = p.split ∙ ap (λ l. p.front ++ (k ∷ l)) f.split ∙ sym (append_assoc p.front (k ∷ f.front) f.behind);
    length = f.length;
    alive = (f.alive.0, λ zs. subst (λ l. Shape Comparison l zs) (sym (append_assoc p.front (k ∷ f.front) (f.alive.0 ++ zs))) (compared (p.shape (k ∷ (f.front ++ (f.alive.0 ++ zs)))) h (f.alive.1 zs)));
    dead = λ zs to a q s. f.dead zs to a (behind_comparison (f.front ++ zs) to (subst (λ l. Shape Comparison l to) (append_assoc p.front (k ∷ f.front) zs) q) s) (stops_sum to s);
  }

  pub third_comparison_fails : (j : TokenKind) (rest : List TokenKind) (other : CmpOp) → Passed sum ls (j ∷ rest) → comparison j ≡ Some other → Fails Comparison ks (length (j ∷ rest))
  third_comparison_fails j rest other r e = record {
    front = p.front ++ (k ∷ r.front);
    behind = j ∷ rest;
    split = p.split ∙ ap (λ l. p.front ++ (k ∷ l)) r.split ∙ sym (append_assoc p.front (k ∷ r.front) (j ∷ rest));
    length = refl;
    alive = ([], λ zs. subst (λ l. Shape Comparison l zs) (sym (append_assoc p.front (k ∷ r.front) zs)) (compared (p.shape (k ∷ (r.front ++ zs))) h (r.shape zs)));
    dead = λ zs to a q s.
        let i = behind_comparison (r.front ++ zs) to (subst (λ l. Shape Comparison l to) (append_assoc p.front (k ∷ r.front) zs) q) s in
        let e' = r.only zs to a i (stops_sum to s) in
        absurd (no_stop Comparison j rest zs a (goes_comparison j other e) (subst (StopsAt Comparison) e' s));
  }

-- ---- names, numbers and brackets

not_primary : (k : TokenKind) → is_literal k ≡ false → k ≢ kinds.Name → k ≢ kinds.Word words.Random → k ≢ kinds.Sign signs.ParenOpen → begins_primary k ≡ false
not_primary (kinds.Number n) l m r o = absurd (cc)
not_primary (kinds.Word words.True) l m r o = absurd (cc)
not_primary (kinds.Word words.False) l m r o = absurd (cc)
not_primary (kinds.Word words.Random) l m r o = absurd (r refl)
not_primary kinds.Name l m r o = absurd (m refl)
not_primary (kinds.Sign signs.ParenOpen) l m r o = absurd (o refl)
not_primary _ l m r o = refl

-- no primary begins here
abbrev pub NoPrimary : List TokenKind → Type 0
NoPrimary [] = Unit {0}
NoPrimary (k ∷ ks) = begins_primary k ≡ false

begins_not : (ks zs to : List TokenKind) → NoPrimary ks → Agrees ks zs → Shape Primary zs to → ⊥
begins_not [] [] to n a q = no_empty_shape q
begins_not [] (z ∷ zs) to n a q = a
begins_not (k ∷ ks) [] to n a q = a
begins_not (k ∷ ks) (z ∷ zs) to n a q = contrary (subst (λ w. begins_primary w ≡ true) (sym a) (first_kind q)) n

pub no_primary_fails : (ks : List TokenKind) → NoPrimary ks → Fails Primary ks (length ks)
no_primary_fails ks n = record {
  front = [];
  behind = ks;
  split = refl;
  length = refl;
  alive = (kinds.Number 0 ∷ [], λ zs. a_literal refl);
  dead = λ zs to a q s. begins_not ks zs to n a q;
}

pub no_primary : (k : TokenKind) (ks : List TokenKind) → is_literal k ≡ false → k ≢ kinds.Name → k ≢ kinds.Word words.Random → k ≢ kinds.Sign signs.ParenOpen → NoPrimary (k ∷ ks)
no_primary k ks l m r o = not_primary k l m r o

-- a dot or a bracket behind a primary that is whole
pub alone_fails : (ks : List TokenKind) (k : TokenKind) (rest : List TokenKind) → Passed Primary ks (k ∷ rest) → opens_more k ≡ true → Fails Primary ks (length (k ∷ rest))
alone_fails ks k rest p o = record {
  front = p.front;
  behind = k ∷ rest;
  split = p.split;
  length = refl;
  alive = ([], λ zs. p.shape zs);
  dead = λ zs to a q s. absurd (no_stop Primary k rest zs a o (subst (StopsAt Primary) (p.only zs to a q s) s));
}

-- a kind that has to stand behind these, and does not
missing_fails : (front : List TokenKind) (k : TokenKind) (finish ks : List TokenKind) → ((zs : List TokenKind) → Shape Primary (front ++ ((k ∷ finish) ++ zs)) zs) → ((zs to : List TokenKind) → Shape Primary (front ++ zs) to → StopsAt Primary to → (ls : List TokenKind) × (zs ≡ k ∷ ls)) → NotAt k ks → Fails Primary (front ++ ks) (length ks)
missing_fails front k finish ks shape out n = record {
  front = front;
  behind = ks;
  split = refl;
  length = refl;
  alive = (k ∷ finish, shape);
  dead = λ zs to a q s. let i = out zs to q s in not_here k ks zs i.0 n a i.1;
}

invert_literal : {k : TokenKind} {ks to : List TokenKind} → is_literal k ≡ true → Shape Primary (k ∷ ks) to → to ≡ ks
invert_literal h (a_literal l) = refl
invert_literal h a_local = absurd (cc)
invert_literal h a_field = absurd (cc)
invert_literal h (a_call p) = absurd (cc)
invert_literal h a_random = absurd (cc)
invert_literal h (bracketed p) = absurd (cc)

pub literal_passed : (k : TokenKind) (ks : List TokenKind) → is_literal k ≡ true → Passed Primary (k ∷ ks) ks
literal_passed k ks h = record { front = k ∷ []; split = refl; shape = λ zs. a_literal h; only = λ zs to a q s. invert_literal h q }

invert_field : {ks to : List TokenKind} → Shape Primary (kinds.Name ∷ kinds.Sign signs.Dot ∷ ks) to → StopsAt Primary to → ks ≡ kinds.Name ∷ to
invert_field (a_literal l) s = absurd (cc)
invert_field a_local s = absurd (cc)
invert_field a_field s = refl

pub field_passed : (ks : List TokenKind) → Passed Primary (kinds.Name ∷ kinds.Sign signs.Dot ∷ kinds.Name ∷ ks) ks
field_passed ks = record {
  front = kinds.Name ∷ kinds.Sign signs.Dot ∷ kinds.Name ∷ [];
  split = refl;
  shape = λ zs. a_field;
  only = λ zs to a q s. sym (tail_kinds (invert_field q s));
}

pub dot_fails : (ks : List TokenKind) → NotAt kinds.Name ks → Fails Primary (kinds.Name ∷ kinds.Sign signs.Dot ∷ ks) (length ks)
dot_fails ks n = missing_fails (kinds.Name ∷ kinds.Sign signs.Dot ∷ []) kinds.Name [] ks (λ zs. a_field) (λ zs to q s. (to, invert_field q s)) n

invert_bracket : {ks to : List TokenKind} → Shape Primary (kinds.Sign signs.ParenOpen ∷ ks) to → Shape expression ks (kinds.Sign signs.ParenClose ∷ to)
invert_bracket (a_literal l) = absurd (cc)
invert_bracket (bracketed p) = p

pub bracket_passed : (ks rest : List TokenKind) → Passed expression ks (kinds.Sign signs.ParenClose ∷ rest) → Passed Primary (kinds.Sign signs.ParenOpen ∷ ks) rest
bracket_passed ks rest p =
    let shut = kinds.Sign signs.ParenClose in
    record {
      front = kinds.Sign signs.ParenOpen ∷ (p.front ++ shut ∷ []);
      split = ap (λ l. kinds.Sign signs.ParenOpen ∷ l) (p.split ∙ sym (append_assoc p.front (shut ∷ []) rest));
      shape = λ zs. subst (λ l. Shape Primary (kinds.Sign signs.ParenOpen ∷ l) zs) (sym (append_assoc p.front (shut ∷ []) zs)) (bracketed (p.shape (shut ∷ zs)));
      only = λ zs to a q s.
          tail_kinds (p.only (shut ∷ zs) (shut ∷ to) refl (subst (λ l. Shape expression l (shut ∷ to)) (append_assoc p.front (shut ∷ []) zs) (invert_bracket q)) refl);
    }

pub bracket_fails : (ks : List TokenKind) (left : ℕ) → Fails expression ks left → Fails Primary (kinds.Sign signs.ParenOpen ∷ ks) left
bracket_fails ks left f =
    let shut = kinds.Sign signs.ParenClose in
    record {
      front = kinds.Sign signs.ParenOpen ∷ f.front;
      behind = f.behind;
      split = ap (λ l. kinds.Sign signs.ParenOpen ∷ l) f.split;
      length = f.length;
      alive = (f.alive.0 ++ shut ∷ [], λ zs. subst (λ l. Shape Primary (kinds.Sign signs.ParenOpen ∷ (f.front ++ l)) zs) (sym (append_assoc f.alive.0 (shut ∷ []) zs)) (bracketed (f.alive.1 (shut ∷ zs))));
      dead = λ zs to a q s. f.dead zs (shut ∷ to) a (invert_bracket q) refl;
    }

pub shut_fails : (ks rest : List TokenKind) → Passed expression ks rest → NotAt (kinds.Sign signs.ParenClose) rest → Fails Primary (kinds.Sign signs.ParenOpen ∷ ks) (length rest)
shut_fails ks rest p n =
    let shut = kinds.Sign signs.ParenClose in
    record {
      front = kinds.Sign signs.ParenOpen ∷ p.front;
      behind = rest;
      split = ap (λ l. kinds.Sign signs.ParenOpen ∷ l) p.split;
      length = refl;
      alive = (shut ∷ [], λ zs. bracketed (p.shape (shut ∷ zs)));
      dead = λ zs to a q s. absurd (not_here shut rest zs to n a (sym (p.only zs (shut ∷ to) a (invert_bracket q) refl)));
    }

-- ---- calls

pub listed_none : (ks : List TokenKind) → Listed ks ks
listed_none ks = record { front = []; split = refl; shape = λ zs to p. p; only = λ zs to a p. p }

invert_argument : {ks to : List TokenKind} → Arguments (kinds.Sign signs.Comma ∷ ks) (kinds.Sign signs.ParenClose ∷ to) → (ls : List TokenKind) × Shape expression ks ls × Arguments ls (kinds.Sign signs.ParenClose ∷ to)
invert_argument (one_more {ls = ls} p q) = (ls, p, q)

stops_list : {ls to : List TokenKind} → Arguments ls (kinds.Sign signs.ParenClose ∷ to) → StopsAt expression ls
stops_list no_more = refl
stops_list (one_more p q) = refl

pub listed_more : {ks ls rest : List TokenKind} → Listed ks (kinds.Sign signs.Comma ∷ ls) → Passed expression ls rest → Listed ks rest
listed_more {ks} {ls} {rest} t p =
    let comma = kinds.Sign signs.Comma in
    record {
      front = t.front ++ (comma ∷ p.front);
      split = t.split ∙ ap (λ l. t.front ++ (comma ∷ l)) p.split ∙ sym (append_assoc t.front (comma ∷ p.front) rest);
      shape = λ zs to g. subst (λ l. Arguments l to) (sym (append_assoc t.front (comma ∷ p.front) zs)) (t.shape (comma ∷ (p.front ++ zs)) to (one_more (p.shape zs) g));
      only = λ zs to a q.
          let i = invert_argument (t.only (comma ∷ (p.front ++ zs)) to refl (subst (λ l. Arguments l (kinds.Sign signs.ParenClose ∷ to)) (append_assoc t.front (comma ∷ p.front) zs) q)) in
          subst (λ l. Arguments l (kinds.Sign signs.ParenClose ∷ to)) (p.only zs i.0 a i.1 (stops_list i.2)) i.2;
    }

pub argument_fails : {ks ls : List TokenKind} → Listed ks (kinds.Sign signs.Comma ∷ ls) → (left : ℕ) → Fails expression ls left → ListFails ks left
argument_fails t left f =
    let comma = kinds.Sign signs.Comma in
    record {
      front = t.front ++ (comma ∷ f.front);
      behind = f.behind;
      split = t.split ∙ ap (λ l. t.front ++ (comma ∷ l)) f.split ∙ sym (append_assoc t.front (comma ∷ f.front) f.behind);
      length = f.length;
      finish = f.alive.0;
      alive = λ zs to g. subst (λ l. Arguments l to) (sym (append_assoc t.front (comma ∷ f.front) (f.alive.0 ++ zs))) (t.shape (comma ∷ (f.front ++ (f.alive.0 ++ zs))) to (one_more (f.alive.1 zs) g));
      dead = λ zs to a q.
          let i = invert_argument (t.only (comma ∷ (f.front ++ zs)) to refl (subst (λ l. Arguments l (kinds.Sign signs.ParenClose ∷ to)) (append_assoc t.front (comma ∷ f.front) zs) q)) in
          f.dead zs i.0 a i.1 (stops_list i.2);
    }

invert_call : {ks to : List TokenKind} → Shape Primary (kinds.Name ∷ kinds.Sign signs.ParenOpen ∷ ks) to → StopsAt Primary to → (ls : List TokenKind) × (ks ≡ kinds.Name ∷ ls) × Arguments ls (kinds.Sign signs.ParenClose ∷ to)
invert_call (a_literal l) s = absurd (cc)
invert_call a_local s = absurd (cc)
invert_call (a_call {ks = ls} p) s = (ls, refl, p)

pub unit_fails : (ks : List TokenKind) → NotAt kinds.Name ks → Fails Primary (kinds.Name ∷ kinds.Sign signs.ParenOpen ∷ ks) (length ks)
unit_fails ks n = missing_fails (kinds.Name ∷ kinds.Sign signs.ParenOpen ∷ []) kinds.Name (kinds.Sign signs.ParenClose ∷ []) ks (λ zs. a_call no_more) (λ zs to q s. let i = invert_call q s in (i.0, i.1)) n

pub list_fails : (ks : List TokenKind) (left : ℕ) → ListFails ks left → Fails Primary (kinds.Name ∷ kinds.Sign signs.ParenOpen ∷ kinds.Name ∷ ks) left
list_fails ks left f =
    let shut = kinds.Sign signs.ParenClose in
    record {
      front = kinds.Name ∷ kinds.Sign signs.ParenOpen ∷ kinds.Name ∷ f.front;
      behind = f.behind;
      split = ap (λ l. kinds.Name ∷ kinds.Sign signs.ParenOpen ∷ kinds.Name ∷ l) f.split;
      length = f.length;
      alive = (f.finish ++ shut ∷ [], λ zs. subst (λ l. Shape Primary (kinds.Name ∷ kinds.Sign signs.ParenOpen ∷ kinds.Name ∷ (f.front ++ l)) zs) (sym (append_assoc f.finish (shut ∷ []) zs)) (a_call (f.alive (shut ∷ zs) (shut ∷ zs) no_more)));
      dead = λ zs to a q s. let i = invert_call q s in f.dead zs to a (subst (λ l. Arguments l (shut ∷ to)) (sym (tail_kinds i.1)) i.2);
    }

pub list_shut_fails : (ks rest : List TokenKind) → Listed ks rest → NotAt (kinds.Sign signs.Comma) rest → NotAt (kinds.Sign signs.ParenClose) rest → Fails Primary (kinds.Name ∷ kinds.Sign signs.ParenOpen ∷ kinds.Name ∷ ks) (length rest)
list_shut_fails ks rest t m n =
    let shut = kinds.Sign signs.ParenClose in
    record {
      front = kinds.Name ∷ kinds.Sign signs.ParenOpen ∷ kinds.Name ∷ t.front;
      behind = rest;
      split = ap (λ l. kinds.Name ∷ kinds.Sign signs.ParenOpen ∷ kinds.Name ∷ l) t.split;
      length = refl;
      alive = (shut ∷ [], λ zs. a_call (t.shape (shut ∷ zs) (shut ∷ zs) no_more));
      dead = λ zs to a q s.
          let i = invert_call q s in
          let g = t.only zs to a (subst (λ l. Arguments l (shut ∷ to)) (sym (tail_kinds i.1)) i.2) in
          no_list rest zs to m n a g;
    }

pub call_passed : (ks rest : List TokenKind) → Listed ks (kinds.Sign signs.ParenClose ∷ rest) → Passed Primary (kinds.Name ∷ kinds.Sign signs.ParenOpen ∷ kinds.Name ∷ ks) rest
call_passed ks rest t =
    let shut = kinds.Sign signs.ParenClose in
    let opens : List TokenKind → List TokenKind = λ l. kinds.Name ∷ kinds.Sign signs.ParenOpen ∷ kinds.Name ∷ l in
    record {
      front = opens (t.front ++ shut ∷ []);
      split = ap opens (t.split ∙ sym (append_assoc t.front (shut ∷ []) rest));
      shape = λ zs. subst (λ l. Shape Primary (opens l) zs) (sym (append_assoc t.front (shut ∷ []) zs)) (a_call (t.shape (shut ∷ zs) (shut ∷ zs) no_more));
      only = λ zs to a q s.
          let i = invert_call q s in
          let g = t.only (shut ∷ zs) to refl (subst (λ l. Arguments l (shut ∷ to)) (sym (tail_kinds i.1) ∙ append_assoc t.front (shut ∷ []) zs) i.2) in
          shut_list g;
    }
