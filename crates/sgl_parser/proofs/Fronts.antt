-- What reading a part has passed, and where it fails, from its parts.
use Rattle.std.proofs.Common.{◌≡◌, ◌⊎◌, inl, inr, ⊎_elim, ℕ, false, List, [], ◌∷◌, ◌++◌, Some, sym, refl, ap, subst, ◌∙◌, append_assoc}
use Rattle.std.specs.Option.{is_some}
use Rattle.sgl_lexer.specs.declared.lexeme.Token.{Token}
use Rattle.sgl_lexer.specs.declared.lexeme.TokenKind.{TokenKind}
use Rattle.sgl_values.specs.declared.operator.BinOp.{BinOp}
use Rattle.sgl_parser.specs.declared.precedence.Chain.{Chain}
use Rattle.sgl_parser.specs.declared.precedence.Chain.TheVariants as chains
use Rattle.sgl_parser.specs.declared.precedence.Prefix.{Prefix}
use Rattle.sgl_parser.specs.declared.precedence.Prefix.TheVariants as prefixes
use Rattle.sgl_tree.specs.declared.expression.Expr.{Expr}
use Rattle.sgl_parser.specs.Operators.{operator, prefix_kind, comparison}
use Rattle.sgl_parser.specs.Grammar.{Part, Chained, Comparison, sum, operand, prefixed, unprefixed, Spells}
use Rattle.sgl_parser.specs.Follow.{Stops, continues}
use Rattle.sgl_parser.specs.Reads.{IsReadPart}
use Rattle.sgl_parser.specs.Shape.{Shape, GoesOn, kinds_of, StopsAt, Fails, chained, negated, not_negated, minus, no_minus, ends, goes_on}
use Rattle.sgl_parser.specs.Breaks.{Agrees, Passes, NotAt}
use Rattle.sgl_parser.proofs.Sequences.{within_breaks, kind_breaks}
use Rattle.sgl_parser.proofs.Unique.{contrary, right_false, apart, goes}
use Rattle.sgl_parser.proofs.Shapes.{unique_shape, shape_of, moved, first_kind}

-- A part was read up to the rest, whatever is behind the next token.
abbrev pub Passed : Part → List TokenKind → List TokenKind → Type 0
Passed part ks rest = Passes (Shape part) (StopsAt part) ks rest

pub agrees_stops : (part : Part) (ks zs : List TokenKind) → Agrees ks zs → StopsAt part ks → StopsAt part zs
agrees_stops part [] [] a s = tt
agrees_stops part [] (z ∷ zs) a s = absurd a
agrees_stops part (k ∷ ks) [] a s = absurd a
agrees_stops part (k ∷ ks) (z ∷ zs) a s = subst (λ w. continues part w ≡ false) a s

pub stops_kinds : (part : Part) (ts : List Token) → Stops part ts → StopsAt part (kinds_of ts)
stops_kinds part [] s = tt
stops_kinds part (t ∷ ts) s = s

pub passed : {text : List ℕ} {part : Part} {ts us : List Token} {e : Expr} → Spells text part ts us e → Stops part us → Passed part (kinds_of ts) (kinds_of us)
passed {part = part} {us = us} p s =
    let m = moved (shape_of p) in
    record {
      front = m.0;
      split = m.1;
      shape = m.2;
      only = λ zs to a q s'. unique_shape q (m.2 zs) s' (agrees_stops part (kinds_of us) zs a (stops_kinds part us s));
    }

pub part_passed : {text : List ℕ} {part : Part} {ts us : List Token} {e : Expr} → IsReadPart part text ts us e → Passed part (kinds_of ts) (kinds_of us)
part_passed p = passed p.spells p.stops

stops_operand_at : (c : Chain) (ks : List TokenKind) → StopsAt (Chained c) ks → StopsAt (operand c) ks
stops_operand_at chains.Or [] s = tt
stops_operand_at chains.And [] s = tt
stops_operand_at chains.Sum [] s = tt
stops_operand_at chains.Product [] s = tt
stops_operand_at chains.Or (k ∷ ks) s = right_false (is_some (operator chains.Or k)) _ s
stops_operand_at chains.And (k ∷ ks) s = right_false (is_some (operator chains.And k)) _ s
stops_operand_at chains.Sum (k ∷ ks) s = right_false (is_some (operator chains.Sum k)) _ s
stops_operand_at chains.Product (k ∷ ks) s = right_false (is_some (operator chains.Product k)) _ s

stops_before : {c : Chain} {ks ls : List TokenKind} → GoesOn c ks ls → StopsAt (Chained c) ls → StopsAt (operand c) ks
stops_before (ends {c} {ks}) s = stops_operand_at c ks s
stops_before (goes_on {c} {k} {op} h p q) s = apart c k op h

stops_unprefixed : (p : Prefix) (ks : List TokenKind) → StopsAt (prefixed p) ks → StopsAt (unprefixed p) ks
stops_unprefixed prefixes.Not [] s = tt
stops_unprefixed prefixes.Minus [] s = tt
stops_unprefixed prefixes.Not (k ∷ ks) s = s
stops_unprefixed prefixes.Minus (k ∷ ks) s = s

pub stops_sum : (ks : List TokenKind) → StopsAt Comparison ks → StopsAt sum ks
stops_sum [] s = tt
stops_sum (k ∷ ks) s = right_false (is_some (comparison k)) _ s

same_first : (k : TokenKind) (ks zs : List TokenKind) → Agrees (k ∷ ks) (k ∷ zs)
same_first k ks zs = refl

-- ---- chains

invert_chain : {c : Chain} {ks to : List TokenKind} → Shape (Chained c) ks to → (ls : List TokenKind) × Shape (operand c) ks ls × GoesOn c ls to
invert_chain (chained {ls = ls} p q) = (ls, p, q)

invert_on : {c : Chain} {k : TokenKind} {ks to : List TokenKind} → GoesOn c (k ∷ ks) to → (to ≡ k ∷ ks) ⊎ ((ls : List TokenKind) × Shape (operand c) ks ls × GoesOn c ls to)
invert_on ends = inl refl
invert_on (goes_on {ls = ls} h p q) = inr (ls, p, q)

-- Operands and operators were read up to the rest.
pub record Through (c : Chain) (ks rest : List TokenKind) : Type 0 where
  pub front : List TokenKind
  pub split : ks ≡ front ++ rest
  pub shape : (zs to : List TokenKind) → GoesOn c zs to → Shape (Chained c) (front ++ zs) to
  pub only : (zs to : List TokenKind) → Agrees rest zs → Shape (Chained c) (front ++ zs) to → StopsAt (Chained c) to → GoesOn c zs to

pub through_first : {c : Chain} {ks rest : List TokenKind} → Passed (operand c) ks rest → Through c ks rest
through_first {c} p = record {
  front = p.front;
  split = p.split;
  shape = λ zs to g. chained (p.shape zs) g;
  only = λ zs to a q s.
      let i = invert_chain q in
      subst (λ l. GoesOn c l to) (p.only zs i.0 a i.1 (stops_before i.2 s)) i.2;
}

module _ {c : Chain} {ks ls : List TokenKind} {k : TokenKind} {op : BinOp} (t : Through c ks (k ∷ ls)) (h : operator c k ≡ Some op) where
  -- what stands behind the operator
  behind_operator : (zs to : List TokenKind) → Shape (Chained c) (t.front ++ (k ∷ zs)) to → StopsAt (Chained c) to → (us : List TokenKind) × Shape (operand c) zs us × GoesOn c us to
  behind_operator zs to q s =
      ⊎_elim
      (λ e. contrary (goes c k op h) (subst (StopsAt (Chained c)) e s))
      (λ i. i)
      (invert_on (t.only (k ∷ zs) to refl q s))

  pub through_more : {rest : List TokenKind} → Passed (operand c) ls rest → Through c ks rest
  through_more {rest} p = record {
    front = t.front ++ (k ∷ p.front);
    split = t.split ∙ ap (λ l. t.front ++ (k ∷ l)) p.split ∙ sym (append_assoc t.front (k ∷ p.front) rest);
    shape = λ zs to g. subst (λ l. Shape (Chained c) l to) (sym (append_assoc t.front (k ∷ p.front) zs)) (t.shape (k ∷ (p.front ++ zs)) to (goes_on h (p.shape zs) g));
    only = λ zs to a q s.
        let i = behind_operator (p.front ++ zs) to (subst (λ l. Shape (Chained c) l to) (append_assoc t.front (k ∷ p.front) zs) q) s in
        subst (λ l. GoesOn c l to) (p.only zs i.0 a i.1 (stops_before i.2 s)) i.2;
  }

  pub through_fails : (left : ℕ) → Fails (operand c) ls left → Fails (Chained c) ks left
  through_fails left f = record {
    front = t.front ++ (k ∷ f.front);
    behind = f.behind;
    split = t.split ∙ ap (λ l. t.front ++ (k ∷ l)) f.split ∙ sym (append_assoc t.front (k ∷ f.front) f.behind);
    length = f.length;
    alive = (f.alive.0, λ zs. subst (λ l. Shape (Chained c) l zs) (sym (append_assoc t.front (k ∷ f.front) (f.alive.0 ++ zs))) (t.shape (k ∷ (f.front ++ (f.alive.0 ++ zs))) zs (goes_on h (f.alive.1 zs) ends)));
    dead = λ zs to a q s.
        let i = behind_operator (f.front ++ zs) to (subst (λ l. Shape (Chained c) l to) (append_assoc t.front (k ∷ f.front) zs) q) s in
        f.dead zs i.0 a i.1 (stops_before i.2 s);
  }

pub operand_fails : (c : Chain) (ks : List TokenKind) (left : ℕ) → Fails (operand c) ks left → Fails (Chained c) ks left
operand_fails c ks left f = within_breaks (λ zs to p. chained p ends) (λ zs to a q s. let i = invert_chain q in (i.0, i.1, stops_before i.2 s)) left f

-- ---- prefixes

not_at : (k : TokenKind) (ks zs : List TokenKind) → NotAt k ks → Agrees ks zs → NotAt k zs
not_at k [] [] n a = tt
not_at k [] (z ∷ zs) n a = absurd a
not_at k (j ∷ js) [] n a = absurd a
not_at k (j ∷ js) (z ∷ zs) n a = λ e. n (a ∙ e)

with_prefix : (p : Prefix) {ks to : List TokenKind} → Shape (prefixed p) ks to → Shape (prefixed p) (prefix_kind p ∷ ks) to
with_prefix prefixes.Not q = negated q
with_prefix prefixes.Minus q = minus q

without_prefix : (p : Prefix) {ks to : List TokenKind} → Shape (unprefixed p) ks to → Shape (prefixed p) ks to
without_prefix prefixes.Not q = not_negated q
without_prefix prefixes.Minus q = no_minus q

invert_with : (p : Prefix) {ks to : List TokenKind} → Shape (prefixed p) (prefix_kind p ∷ ks) to → Shape (prefixed p) ks to
invert_with prefixes.Not (negated q) = q
invert_with prefixes.Not (not_negated q) = absurd (let f = first_kind q in cc)
invert_with prefixes.Minus (minus q) = q
invert_with prefixes.Minus (no_minus q) = absurd (let f = first_kind q in cc)

invert_without : (p : Prefix) {ks to : List TokenKind} → NotAt (prefix_kind p) ks → Shape (prefixed p) ks to → Shape (unprefixed p) ks to
invert_without prefixes.Not n (negated q) = absurd (n refl)
invert_without prefixes.Not n (not_negated q) = q
invert_without prefixes.Minus n (minus q) = absurd (n refl)
invert_without prefixes.Minus n (no_minus q) = q

pub prefixed_fails : (p : Prefix) (ks : List TokenKind) (left : ℕ) → Fails (prefixed p) ks left → Fails (prefixed p) (prefix_kind p ∷ ks) left
prefixed_fails p ks left f = kind_breaks (prefix_kind p) (λ zs to q. with_prefix p q) (λ zs to q. invert_with p q) left f

pub unprefixed_fails : (p : Prefix) (ks : List TokenKind) (left : ℕ) → NotAt (prefix_kind p) ks → Fails (unprefixed p) ks left → Fails (prefixed p) ks left
unprefixed_fails p ks left n f =
    within_breaks (λ zs to q. without_prefix p q) (λ zs to a q s. (to, invert_without p (not_at (prefix_kind p) ks zs n a) q, stops_unprefixed p to s)) left f
