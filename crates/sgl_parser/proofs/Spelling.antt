-- The rules of the grammar, where the tokens and the term are known by equations.
use Rattle.std.proofs.Common.{◌≡◌, ◌<◌, ℕ, List, [], ◌∷◌, Result, Ok, Err, Some, length, sym, ap, subst, ◌∙◌}
use Rattle.std.specs.Borrow.{Bor}
use Rattle.std.specs.Result.{IfOk, IfErr}
use Rattle.sgl_lexer.specs.declared.lexeme.Token.{Token}
use Rattle.sgl_lexer.specs.declared.lexeme.TokenKind.TheVariants as kinds
use Rattle.sgl_lexer.specs.declared.vocabulary.Sign.TheVariants as signs
use Rattle.sgl_lexer.specs.Slices.{AreSlicesOf}
use Rattle.sgl_values.specs.declared.operator.BinOp.{BinOp}
use Rattle.sgl_values.specs.declared.operator.BinOp.TheVariants as ops
use Rattle.sgl_values.specs.declared.operator.CmpOp.{CmpOp}
use Rattle.sgl_parser.specs.declared.precedence.Chain.{Chain}
use Rattle.sgl_parser.specs.declared.precedence.Prefix.{Prefix}
use Rattle.sgl_parser.specs.declared.precedence.Prefix.TheVariants as prefixes
use Rattle.sgl_tree.specs.declared.expression.Expr.{Expr}
use Rattle.sgl_tree.specs.declared.expression.Expr.TheVariants as trees
use Rattle.sgl_parser.specs.Operators.{operator, prefix_kind, comparison}
use Rattle.sgl_parser.specs.Follow.{Stops}
use Rattle.sgl_parser.specs.Grammar.{Comparison, Primary, sum, expression, operand, prefixed, unprefixed, prefix_tree, name_of, literal, Spells, Continues, SpellsArguments, negated, not_negated, compared, minus, no_minus, a_literal, a_field, a_call, bracketed, goes_on, one_more}
use Rattle.sgl_parser.specs.Reads.{IsReadPart, ReadsPart}
use Rattle.sgl_parser.specs.Shape.{HasStopped, kinds_of}
use Rattle.sgl_parser.specs.declared.reading.Stop.{Stop}

pub four_ok : {T E : Type 0} (r : Result T E) (P Q R S Z : T → Type 0) → ((x : T) → P x → Q x → R x → S x → Z x) → IfOk r P → IfOk r Q → IfOk r R → IfOk r S → IfOk r Z
four_ok (Ok x) P Q R S Z f p q r s = f x p q r s
four_ok (Err e) P Q R S Z f p q r s = tt

-- A primary of these tokens was read, where nothing may go on with it; else reading it stopped.
pub ended : {text : List ℕ} {ts rest : List Token} {e : Expr} (r : Result (Expr × Bor (List Token)) Stop) → Spells text Primary ts rest e → length rest < length ts → AreSlicesOf text rest → IfOk r (λ found. (found.0 ≡ e) × (found.1.now ≡ rest)) → IfOk r (λ found. Stops Primary found.1.now) → IfErr r (HasStopped Primary (kinds_of ts)) → ReadsPart Primary text ts r
ended (Ok found) spelled few kept same stops stopped = record { spells = rw (same.0, same.1) spelled; stops = stops; shorter = rw same.1 few; of = rw same.1 kept }
ended (Err stop) spelled few kept same stops stopped = stopped

stops_prefixed : (p : Prefix) (ts : List Token) → Stops (unprefixed p) ts → Stops (prefixed p) ts
stops_prefixed prefixes.Not [] s = tt
stops_prefixed prefixes.Minus [] s = tt
stops_prefixed prefixes.Not (t ∷ ts) s = s
stops_prefixed prefixes.Minus (t ∷ ts) s = s

module _ {text : List ℕ} where
  without_prefix : (p : Prefix) {ts us : List Token} {e : Expr} → Spells text (unprefixed p) ts us e → Spells text (prefixed p) ts us e
  without_prefix prefixes.Not q = not_negated q
  without_prefix prefixes.Minus q = no_minus q

  -- what has no prefix is read where a prefix may stand
  pub unprefixed_read : (p : Prefix) {ts us : List Token} {e : Expr} → IsReadPart (unprefixed p) text ts us e → IsReadPart (prefixed p) text ts us e
  unprefixed_read p {us = us} h = record { spells = without_prefix p h.spells; stops = stops_prefixed p us h.stops; shorter = h.shorter; of = h.of }

  a_prefix : (p : Prefix) {t : Token} {us vs : List Token} {x : Expr} → t.kind ≡ prefix_kind p → Spells text (prefixed p) us vs x → Spells text (prefixed p) (t ∷ us) vs (prefix_tree p x t.place)
  a_prefix prefixes.Not kind inner = negated kind inner
  a_prefix prefixes.Minus kind inner = minus kind inner

  pub prefixed_at : (p : Prefix) {t : Token} {ts us vs : List Token} {x e : Expr} → ts ≡ t ∷ us → t.kind ≡ prefix_kind p → Spells text (prefixed p) us vs x → e ≡ prefix_tree p x t.place → Spells text (prefixed p) ts vs e
  prefixed_at p {t} {ts} {us} {vs} {x} {e} list kind inner is =
      subst (λ l. Spells text (prefixed p) l vs e) (sym list) (subst (Spells text (prefixed p) (t ∷ us) vs) (sym is) (a_prefix p kind inner))

  pub compared_at : {t : Token} {op : CmpOp} {ts rest us vs : List Token} {x y e : Expr} → Spells text sum ts rest x → rest ≡ t ∷ us → comparison t.kind ≡ Some op → Spells text sum us vs y → e ≡ trees.Binary (ops.Cmp op) x y t.place → Spells text Comparison ts vs e
  compared_at {t} {op} {ts} {rest} {us} {vs} {x} {y} {e} left list kind right is =
      subst (Spells text Comparison ts vs) (sym is) (compared (subst (λ l. Spells text sum ts l x) list left) kind right)

  pub goes_on_at : {c : Chain} {t : Token} {op : BinOp} {ts us rest vs : List Token} {x y z e : Expr} → ts ≡ t ∷ us → operator c t.kind ≡ Some op → Spells text (operand c) us rest y → z ≡ trees.Binary op x y t.place → Continues text c z rest vs e → Continues text c x ts vs e
  goes_on_at {c} {t} {op} {ts} {us} {rest} {vs} {x} {y} {z} {e} list kind right is after =
      subst (λ l. Continues text c x l vs e) (sym list) (goes_on kind right (subst (λ w. Continues text c w rest vs e) is after))

  pub literal_at : {t : Token} {ts us : List Token} {e : Expr} → ts ≡ t ∷ us → literal t.kind t.place ≡ Some e → Spells text Primary ts us e
  literal_at {t} {ts} {us} {e} list is = subst (λ l. Spells text Primary l us e) (sym list) (a_literal is)

  pub field_at : {t d n : Token} {ts us vs : List Token} → t.kind ≡ kinds.Name → ts ≡ d ∷ us → d.kind ≡ kinds.Sign signs.Dot → us ≡ n ∷ vs → n.kind ≡ kinds.Name → Spells text Primary (t ∷ ts) vs (trees.Field (name_of text t) (name_of text n))
  field_at {t} {d} {n} {ts} {us} {vs} name list dot list' name' =
      subst (λ l. Spells text Primary (t ∷ l) vs (trees.Field (name_of text t) (name_of text n))) (sym (list ∙ ap (λ l. d ∷ l) list')) (a_field name dot name')

  pub call_at : {t o u c : Token} {ts us vs ws xs : List Token} {args : List Expr} → t.kind ≡ kinds.Name → ts ≡ o ∷ us → o.kind ≡ kinds.Sign signs.ParenOpen → us ≡ u ∷ vs → u.kind ≡ kinds.Name → SpellsArguments text vs ws args → ws ≡ c ∷ xs → c.kind ≡ kinds.Sign signs.ParenClose → Spells text Primary (t ∷ ts) xs (trees.Call (name_of text t) (name_of text u) args)
  call_at {t} {o} {u} {c} {ts} {us} {vs} {ws} {xs} {args} name list opening list' unit arguments list'' closing =
      subst (λ l. Spells text Primary (t ∷ l) xs (trees.Call (name_of text t) (name_of text u) args)) (sym (list ∙ ap (λ l. o ∷ l) list'))
      (a_call name opening unit (subst (λ l. SpellsArguments text vs l args) list'' arguments) closing)

  pub bracketed_at : {o c : Token} {ts us vs xs : List Token} {e : Expr} → ts ≡ o ∷ us → o.kind ≡ kinds.Sign signs.ParenOpen → Spells text expression us vs e → vs ≡ c ∷ xs → c.kind ≡ kinds.Sign signs.ParenClose → Spells text Primary ts xs e
  bracketed_at {o} {c} {ts} {us} {vs} {xs} {e} list opening inner list' closing =
      subst (λ l. Spells text Primary l xs e) (sym list) (bracketed opening (subst (λ l. Spells text expression us l e) list' inner) closing)

  pub one_more_at : {t : Token} {ts us vs ws : List Token} {e : Expr} (es : List Expr) → ts ≡ t ∷ us → t.kind ≡ kinds.Sign signs.Comma → Spells text expression us vs e → SpellsArguments text vs ws es → SpellsArguments text ts ws (e ∷ es)
  one_more_at {t} {ts} {us} {vs} {ws} {e} es list comma inner after =
      subst (λ l. SpellsArguments text l ws (e ∷ es)) (sym list) (one_more comma inner after)
