-- Where reading fails, with the tokens known by equations.
use Rattle.std.proofs.Common.{◌≡◌, ℕ, suc, true, false, List, [], ◌∷◌, Option, Some, None, length, sym, refl, ap, subst, ◌∙◌}
use Rattle.std.specs.Option.{is_some}
use Rattle.sgl_values.specs.declared.place.Place.{Place}
use Rattle.sgl_lexer.specs.declared.lexeme.Token.{Token}
use Rattle.sgl_lexer.specs.declared.lexeme.TokenKind.{TokenKind}
use Rattle.sgl_lexer.specs.declared.lexeme.TokenKind.TheVariants as kinds
use Rattle.sgl_lexer.specs.declared.vocabulary.Word.TheVariants as words
use Rattle.sgl_lexer.specs.declared.vocabulary.Sign.TheVariants as signs
use Rattle.sgl_values.specs.declared.operator.BinOp.{BinOp}
use Rattle.sgl_values.specs.declared.operator.CmpOp.{CmpOp}
use Rattle.sgl_parser.specs.declared.precedence.Chain.{Chain}
use Rattle.sgl_parser.specs.declared.precedence.Prefix.{Prefix}
use Rattle.sgl_parser.specs.declared.reading.Stop.{Stop}
use Rattle.sgl_parser.specs.declared.reading.Stop.TheVariants as stops
use Rattle.sgl_tree.specs.declared.expression.Expr.{Expr}
use Rattle.sgl_parser.specs.Operators.{operator, prefix_kind, comparison}
use Rattle.sgl_parser.specs.Grammar.{Part, Chained, Comparison, Primary, sum, expression, operand, prefixed, unprefixed, literal}
use Rattle.sgl_parser.specs.Follow.{StopsArguments, IsNotAt, continues_arguments}
use Rattle.sgl_parser.specs.Shape.{kinds_of, Fails, HasStopped, Listed, ListHasStopped, Opens, is_literal}
use Rattle.sgl_parser.specs.Breaks.{NotAt}
use Rattle.sgl_parser.proofs.TokenKinds.{kinds-length, kinds_at, not_at_kinds}
use Rattle.sgl_parser.proofs.Fronts.{Passed, Through, through_fails, operand_fails, prefixed_fails, unprefixed_fails}
use Rattle.sgl_parser.proofs.Primaries.{first_sum_fails, second_sum_fails, third_comparison_fails, NoPrimary, no_primary, no_primary_fails, alone_fails, literal_passed, field_passed, dot_fails, bracket_passed, bracket_fails, shut_fails, argument_fails, unit_fails, list_fails, list_shut_fails, call_passed}
use Rattle.sgl_parser.proofs.Shapes.{some_literal}

pub lift : {P Q : Part} {ks ls : List TokenKind} (s : Stop) → ((left : ℕ) → Fails P ks left → Fails Q ls left) → HasStopped P ks s → HasStopped Q ls s
lift (stops.Syntax left) f h = f left h
lift stops.Memory f h = tt

pub through_at : {c : Chain} {t : Token} {ks : List TokenKind} {ts us : List Token} → ts ≡ t ∷ us → Through c ks (kinds_of ts) → Through c ks (t.kind ∷ kinds_of us)
through_at {c} {t} {ks} list p = subst (λ l. Through c ks (kinds_of l)) list p

pub listed_at : {t : Token} {ks : List TokenKind} {ts us : List Token} → ts ≡ t ∷ us → t.kind ≡ kinds.Sign signs.Comma → Listed ks (kinds_of ts) → Listed ks (kinds.Sign signs.Comma ∷ kinds_of us)
listed_at {ks = ks} list kind p = subst (Listed ks) (kinds_at list kind) p

pub operand_stops : (c : Chain) (ts : List Token) (s : Stop) → HasStopped (operand c) (kinds_of ts) s → HasStopped (Chained c) (kinds_of ts) s
operand_stops c ts s h = lift s (operand_fails c (kinds_of ts)) h

pub chain_stops : {c : Chain} {op : BinOp} {t : Token} {ks : List TokenKind} {ts us : List Token} (s : Stop) → Through c ks (kinds_of ts) → ts ≡ t ∷ us → operator c t.kind ≡ Some op → HasStopped (operand c) (kinds_of us) s → HasStopped (Chained c) ks s
chain_stops s p list h f = lift s (through_fails (through_at list p) h) f

pub prefixed_stops : (p : Prefix) {t : Token} {ts us : List Token} (s : Stop) → ts ≡ t ∷ us → t.kind ≡ prefix_kind p → HasStopped (prefixed p) (kinds_of us) s → HasStopped (prefixed p) (kinds_of ts) s
prefixed_stops p {us = us} s list kind h = subst (λ l. HasStopped (prefixed p) l s) (sym (kinds_at list kind)) (lift s (prefixed_fails p (kinds_of us)) h)

pub unprefixed_stops : (p : Prefix) (ts : List Token) (s : Stop) → IsNotAt (prefix_kind p) ts → HasStopped (unprefixed p) (kinds_of ts) s → HasStopped (prefixed p) (kinds_of ts) s
unprefixed_stops p ts s n h = lift s (λ left f. unprefixed_fails p (kinds_of ts) left (not_at_kinds _ ts n) f) h

pub first_sum_stops : (ts : List Token) (s : Stop) → HasStopped sum (kinds_of ts) s → HasStopped Comparison (kinds_of ts) s
first_sum_stops ts s h = lift s (first_sum_fails (kinds_of ts)) h

passed_at : {part : Part} {t : Token} {ks : List TokenKind} {ts us : List Token} → ts ≡ t ∷ us → Passed part ks (kinds_of ts) → Passed part ks (t.kind ∷ kinds_of us)
passed_at {part} {t} {ks} list p = subst (λ l. Passed part ks (kinds_of l)) list p

pub second_sum_stops : {op : CmpOp} {t : Token} {ks : List TokenKind} {ts us : List Token} (s : Stop) → Passed sum ks (kinds_of ts) → ts ≡ t ∷ us → comparison t.kind ≡ Some op → HasStopped sum (kinds_of us) s → HasStopped Comparison ks s
second_sum_stops s p list h f = lift s (second_sum_fails (passed_at list p) h) f

some_from : {A : Type 0} (o : Option A) → is_some o ≡ true → (x : A) × (o ≡ Some x)
some_from None h = absurd (cc)
some_from (Some x) h = (x, refl)

pub third_comparison_stops : {op : CmpOp} {t u : Token} {ks : List TokenKind} {ts us vs ws : List Token} → Passed sum ks (kinds_of ts) → ts ≡ t ∷ us → comparison t.kind ≡ Some op → Passed sum (kinds_of us) (kinds_of vs) → vs ≡ u ∷ ws → is_some (comparison u.kind) ≡ true → Fails Comparison ks (length vs)
third_comparison_stops {u = u} {ks = ks} {vs = vs} {ws = ws} p list h q list' h' =
    let o = some_from (comparison u.kind) h' in
    subst (Fails Comparison ks) (ap suc (kinds-length ws) ∙ sym (ap length list')) (third_comparison_fails (passed_at list p) h u.kind (kinds_of ws) o.0 (passed_at list' q) o.1)

pub end_stops : {ts : List Token} → ts ≡ [] → Fails Primary (kinds_of ts) 0
end_stops list = subst (λ l. Fails Primary (kinds_of l) 0) (sym list) (no_primary_fails [] tt)

word_literal : (w : words.the_data) (p : Place) → literal (kinds.Word w) p ≡ None → is_literal (kinds.Word w) ≡ false
word_literal words.True p e = absurd (cc)
word_literal words.False p e = absurd (cc)
word_literal _ p e = refl

pub no_comma : (ts : List Token) → StopsArguments ts → NotAt (kinds.Sign signs.Comma) (kinds_of ts)
no_comma [] a = tt
no_comma (t ∷ ts) a = λ e. absurd (let f : continues_arguments (kinds.Sign signs.Comma) ≡ false = subst (λ k. continues_arguments k ≡ false) e a in cc)

not_literal : (t : Token) → literal t.kind t.place ≡ None → is_literal t.kind ≡ false
not_literal t h = elim t.kind as (λ k. literal k t.place ≡ None → is_literal k ≡ false) [
  | kinds.Number n ↦ λ e. absurd (cc)
  | kinds.Name ↦ λ e. refl
  | kinds.Sign s ↦ λ e. refl
  | kinds.Word w ↦ λ e. word_literal w t.place e
] h

pub first_stops : {t : Token} {ts us : List Token} → ts ≡ t ∷ us → literal t.kind t.place ≡ None → IsNotAt kinds.Name ts → IsNotAt (kinds.Word words.Random) ts → IsNotAt (kinds.Sign signs.ParenOpen) ts → Fails Primary (kinds_of ts) (length ts)
first_stops {t} {ts} {us} list l n r o =
    subst (λ w. Fails Primary (kinds_of ts) w) (kinds-length ts)
    (no_primary_fails (kinds_of ts) (subst (λ w. NoPrimary (kinds_of w)) (sym list) (no_primary t.kind (kinds_of us) (not_literal t l) (subst (IsNotAt kinds.Name) list n) (subst (IsNotAt (kinds.Word words.Random)) list r) (subst (IsNotAt (kinds.Sign signs.ParenOpen)) list o))))

pub alone_stops : {ks : List TokenKind} (ts : List Token) → Passed Primary ks (kinds_of ts) → Opens ts → Fails Primary ks (length ts)
alone_stops [] p o = absurd o
alone_stops {ks} (t ∷ ts) p o = subst (Fails Primary ks) (ap suc (kinds-length ts)) (alone_fails ks t.kind (kinds_of ts) p o)

pub alone_literal : {t : Token} {e : Expr} {ts us : List Token} → ts ≡ t ∷ us → literal t.kind t.place ≡ Some e → Opens us → Fails Primary (kinds_of ts) (length us)
alone_literal {t} {e} {ts} {us} list h o = subst (λ l. Fails Primary (kinds_of l) (length us)) (sym list) (alone_stops us (literal_passed t.kind (kinds_of us) (some_literal t.kind t.place e h)) o)

pub bracket_stops : {t : Token} {ts us : List Token} (s : Stop) → ts ≡ t ∷ us → t.kind ≡ kinds.Sign signs.ParenOpen → HasStopped expression (kinds_of us) s → HasStopped Primary (kinds_of ts) s
bracket_stops {us = us} s list kind h = subst (λ l. HasStopped Primary l s) (sym (kinds_at list kind)) (lift s (bracket_fails (kinds_of us)) h)

pub shut_stops : {t : Token} {ts us : List Token} (vs : List Token) → ts ≡ t ∷ us → t.kind ≡ kinds.Sign signs.ParenOpen → Passed expression (kinds_of us) (kinds_of vs) → IsNotAt (kinds.Sign signs.ParenClose) vs → Fails Primary (kinds_of ts) (length vs)
shut_stops {us = us} vs list kind p n =
    subst (λ l. Fails Primary l (length vs)) (sym (kinds_at list kind)) (subst (Fails Primary (kinds.Sign signs.ParenOpen ∷ kinds_of us)) (kinds-length vs) (shut_fails (kinds_of us) (kinds_of vs) p (not_at_kinds _ vs n)))

pub alone_bracket : {t c : Token} {ts us vs ws : List Token} → ts ≡ t ∷ us → t.kind ≡ kinds.Sign signs.ParenOpen → Passed expression (kinds_of us) (kinds_of vs) → vs ≡ c ∷ ws → c.kind ≡ kinds.Sign signs.ParenClose → Opens ws → Fails Primary (kinds_of ts) (length ws)
alone_bracket {us = us} {ws = ws} list kind p list' shut o =
    subst (λ l. Fails Primary l (length ws)) (sym (kinds_at list kind))
    (alone_stops ws (bracket_passed (kinds_of us) (kinds_of ws) (subst (Passed expression (kinds_of us)) (kinds_at list' shut) p)) o)

module _ (t : Token) {d : Token} {ts us : List Token} (name : t.kind ≡ kinds.Name) (list : ts ≡ d ∷ us) where
  pub dot_stops : d.kind ≡ kinds.Sign signs.Dot → IsNotAt kinds.Name us → Fails Primary (kinds_of (t ∷ ts)) (length us)
  dot_stops dot n = subst (λ l. Fails Primary l (length us)) (sym (kinds_at {t = t} refl name ∙ ap (λ l. kinds.Name ∷ l) (kinds_at list dot))) (subst (Fails Primary (kinds.Name ∷ kinds.Sign signs.Dot ∷ kinds_of us)) (kinds-length us) (dot_fails (kinds_of us) (not_at_kinds _ us n)))

  pub alone_field : {n : Token} {vs : List Token} → d.kind ≡ kinds.Sign signs.Dot → us ≡ n ∷ vs → n.kind ≡ kinds.Name → Opens vs → Fails Primary (kinds_of (t ∷ ts)) (length vs)
  alone_field {n} {vs} dot list' name' o =
      subst (λ l. Fails Primary l (length vs)) (sym (kinds_at {t = t} refl name ∙ ap (λ l. kinds.Name ∷ l) (kinds_at list dot ∙ ap (λ l. kinds.Sign signs.Dot ∷ l) (kinds_at list' name')))) (alone_stops vs (field_passed (kinds_of vs)) o)

  pub unit_stops : d.kind ≡ kinds.Sign signs.ParenOpen → IsNotAt kinds.Name us → Fails Primary (kinds_of (t ∷ ts)) (length us)
  unit_stops paren n = subst (λ l. Fails Primary l (length us)) (sym (kinds_at {t = t} refl name ∙ ap (λ l. kinds.Name ∷ l) (kinds_at list paren))) (subst (Fails Primary (kinds.Name ∷ kinds.Sign signs.ParenOpen ∷ kinds_of us)) (kinds-length us) (unit_fails (kinds_of us) (not_at_kinds _ us n)))

  module _ {u : Token} {vs : List Token} (paren : d.kind ≡ kinds.Sign signs.ParenOpen) (list' : us ≡ u ∷ vs) (unit : u.kind ≡ kinds.Name) where
    call_kinds : kinds_of (t ∷ ts) ≡ kinds.Name ∷ kinds.Sign signs.ParenOpen ∷ kinds.Name ∷ kinds_of vs
    call_kinds = kinds_at {t = t} refl name ∙ ap (λ l. kinds.Name ∷ l) (kinds_at list paren ∙ ap (λ l. kinds.Sign signs.ParenOpen ∷ l) (kinds_at list' unit))

    pub list_stops : (s : Stop) → ListHasStopped (kinds_of vs) s → HasStopped Primary (kinds_of (t ∷ ts)) s
    list_stops (stops.Syntax left) h = subst (λ l. Fails Primary l left) (sym call_kinds) (list_fails (kinds_of vs) left h)
    list_stops stops.Memory h = tt

    pub list_shut_stops : (ws : List Token) → Listed (kinds_of vs) (kinds_of ws) → StopsArguments ws → IsNotAt (kinds.Sign signs.ParenClose) ws → Fails Primary (kinds_of (t ∷ ts)) (length ws)
    list_shut_stops ws p a n =
        subst (λ l. Fails Primary l (length ws)) (sym call_kinds)
        (subst (Fails Primary (kinds.Name ∷ kinds.Sign signs.ParenOpen ∷ kinds.Name ∷ kinds_of vs)) (kinds-length ws) (list_shut_fails (kinds_of vs) (kinds_of ws) p (no_comma ws a) (not_at_kinds _ ws n)))

    pub alone_call : {c : Token} {ws xs : List Token} → Listed (kinds_of vs) (kinds_of ws) → ws ≡ c ∷ xs → c.kind ≡ kinds.Sign signs.ParenClose → Opens xs → Fails Primary (kinds_of (t ∷ ts)) (length xs)
    alone_call {xs = xs} p list'' shut o =
        subst (λ l. Fails Primary l (length xs)) (sym call_kinds) (alone_stops xs (call_passed (kinds_of vs) (kinds_of xs) (subst (Listed (kinds_of vs)) (kinds_at list'' shut) p)) o)

pub argument_stops : {t : Token} {ks : List TokenKind} {ts us : List Token} (s : Stop) → Listed ks (kinds_of ts) → ts ≡ t ∷ us → t.kind ≡ kinds.Sign signs.Comma → HasStopped expression (kinds_of us) s → ListHasStopped ks s
argument_stops (stops.Syntax left) p list comma h = argument_fails (listed_at list comma p) left h
argument_stops stops.Memory p list comma h = tt
