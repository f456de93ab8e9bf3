-- Calls that were taken out of an expression, and the expression over their slots.
use Rattle.std.proofs.Common.{◌≡◌, ℕ, ◌+◌, ◌<◌, ◌≤◌, true, List, [], ◌∷◌, ◌++◌, map, length, set, refl, ap, sym, ◌∙◌, arith}
use Rattle.std.proofs.lemmas.Bool.{and_parts, ltb-true}
use Rattle.std.proofs.lemmas.List.{length-set, get_or-set_same, get_or-set_other}
use Rattle.sgl_values.specs.declared.fault.Val.{Val}
use Rattle.sgl_typed.specs.Aggregate.{simple_value, value}
use Rattle.sgl_typed.proofs.Equations.{value-Neg, value-Not, value-Binary}
use Rattle.sgl_typed.specs.Value.{Context, values_with, operated, negated, inverted}
use Rattle.sgl_typed.specs.declared.script.AggUse.{AggUse}
use Rattle.sgl_typed.specs.declared.script.TExpr.{TExpr, Row_of-TExpr, end_of-TExpr, more_of-TExpr}
use Rattle.sgl_typed.specs.declared.script.TExpr.TheVariants.{Slot, Agg', Neg', Not', Binary'}
use Rattle.sgl_typed.specs.Reads.{below, reads_only, all_read_only}
use Rattle.battle_algebra.proofs.Walks.{at_slot, called}
use Rattle.plan_translate.specs.Calls.{Lifted, calls_in, calls_in_all, lifted, lifted_all, lifted_calls, lifted_calls_all}
use Rattle.battle_algebra.specs.Meaning.{call_value, frame_items}
use Rattle.battle_algebra.specs.Tree.{Tree}
use Rattle.plan_translate.specs.Translation.{with_calls}

-- the slots of a frame behind the nodes of calls
abbrev pub ran : List Lifted → Context → List Val → List Val
ran [] c slots = slots
ran (lifting ∷ more) c slots = ran more c (set slots lifting.slot (call_value (record c { slots = slots }) lifting.call))

pub length-ran : (nodes : List Lifted) (c : Context) (slots : List Val) → length (ran nodes c slots) ≡ length slots
length-ran [] c slots = refl
length-ran (lifting ∷ more) c slots = length-ran more c (set slots lifting.slot _) ∙ length-set slots lifting.slot _

pub ran-append : (nodes others : List Lifted) (c : Context) (slots : List Val) → ran (nodes ++ others) c slots ≡ ran others c (ran nodes c slots)
ran-append [] others c slots = refl
ran-append (lifting ∷ more) others c slots = ran-append more others c (set slots lifting.slot _)

pub frame-with_calls : (nodes : List Lifted) (tree : Tree) (c : Context) (slots : List Val) → frame_items (with_calls nodes tree) (record c { slots = slots }) ≡ frame_items tree (record c { slots = ran nodes c slots })
frame-with_calls [] tree c slots = refl
frame-with_calls (lifting ∷ more) tree c slots = frame-with_calls more tree c (set slots lifting.slot _)

-- two frames agree on the slots below a number
pub record Agree (bound : ℕ) (xs ys : List Val) : Type 0 where
  pub agree : (i : ℕ) → i < bound → at_slot xs i ≡ at_slot ys i

-- the calls of an expression set no slot below the first free one
mutual
  pub kept : (e : TExpr) (next : ℕ) (c : Context) (slots : List Val) (i : ℕ) → i < next → at_slot (ran (lifted_calls e next) c slots) i ≡ at_slot slots i
  kept (Agg' agg shape args place) next c slots i lt =
      ap (λ all. at_slot all i) (ran-append (lifted_calls_all args next) (record { slot = next + calls_in_all args; call = record { agg = agg; args = lifted_all args next; place = place } } ∷ []) c slots)
      ∙ get_or-set_other (ran (lifted_calls_all args next) c slots) (next + calls_in_all args) i _ _ (omega arith)
      ∙ kept_all args next c slots i lt
  kept (Neg' shape (more_of-TExpr inner end_of-TExpr)) next c slots i lt = kept inner next c slots i lt
  kept (Not' shape (more_of-TExpr inner end_of-TExpr)) next c slots i lt = kept inner next c slots i lt
  kept (Binary' op shape (more_of-TExpr left end_of-TExpr) shape' (more_of-TExpr right end_of-TExpr) place) next c slots i lt =
      ap (λ all. at_slot all i) (ran-append (lifted_calls left next) (lifted_calls right (next + calls_in left)) c slots)
      ∙ kept right (next + calls_in left) c (ran (lifted_calls left next) c slots) i (omega arith)
      ∙ kept left next c slots i lt
  kept e next c slots i lt = refl

  pub kept_all : {m : _} (es : Row_of-TExpr m) (next : ℕ) (c : Context) (slots : List Val) (i : ℕ) → i < next → at_slot (ran (lifted_calls_all es next) c slots) i ≡ at_slot slots i
  kept_all end_of-TExpr next c slots i lt = refl
  kept_all (more_of-TExpr e rest) next c slots i lt =
      ap (λ all. at_slot all i) (ran-append (lifted_calls e next) (lifted_calls_all rest (next + calls_in e)) c slots)
      ∙ kept_all rest (next + calls_in e) c (ran (lifted_calls e next) c slots) i (omega arith)
      ∙ kept e next c slots i lt

-- ---- agreement

pub agree_before : (nodes others : List Lifted) (c : Context) (ys zs : List Val) (bound all : ℕ) → bound ≤ all
    → ((i : ℕ) → i < bound → at_slot (ran others c (ran nodes c ys)) i ≡ at_slot (ran nodes c ys) i)
    → Agree all (ran (nodes ++ others) c ys) zs → Agree bound (ran nodes c ys) zs
agree_before nodes others c ys zs bound all le keep a = record {
  agree = λ i lt.
      sym (keep i lt) ∙ ap (λ slots. at_slot slots i) (sym (ran-append nodes others c ys)) ∙ a.agree i (omega arith);
}

pub agree_behind : (nodes others : List Lifted) (c : Context) (ys zs : List Val) (bound all : ℕ) → bound ≤ all
    → Agree all (ran (nodes ++ others) c ys) zs → Agree bound (ran others c (ran nodes c ys)) zs
agree_behind nodes others c ys zs bound all le a = record {
  agree = λ i lt. ap (λ slots. at_slot slots i) (sym (ran-append nodes others c ys)) ∙ a.agree i (omega arith);
}

pub agree_kept : (nodes : List Lifted) (c : Context) (xs ys : List Val) (bound next : ℕ) → bound ≤ next
    → ((i : ℕ) → i < next → at_slot (ran nodes c ys) i ≡ at_slot ys i) → Agree bound xs ys → Agree bound xs (ran nodes c ys)
agree_kept nodes c xs ys bound next le keep a = record { agree = λ i lt. a.agree i lt ∙ sym (keep i (omega arith)) }

-- the calls of one part, and then of another one: what holds of both holds of each
record Halves (bound next left right : ℕ) (c : Context) (xs zs slots others : List Val) : Type 0 where
  first : Agree (next + left) slots zs
  between : Agree bound xs slots
  second : Agree (next + left + right) others zs
  room : next + left + right ≤ length slots

halves : (nodes others : List Lifted) (c : Context) (xs ys zs : List Val) (bound next left right : ℕ) → bound ≤ next → next + (left + right) ≤ length ys
    → ((i : ℕ) → i < next → at_slot (ran nodes c ys) i ≡ at_slot ys i)
    → ((i : ℕ) → i < next + left → at_slot (ran others c (ran nodes c ys)) i ≡ at_slot (ran nodes c ys) i)
    → Agree bound xs ys → Agree (next + (left + right)) (ran (nodes ++ others) c ys) zs
    → Halves bound next left right c xs zs (ran nodes c ys) (ran others c (ran nodes c ys))
halves nodes others c xs ys zs bound next left right le room keep keep' a b = record {
  first = agree_before nodes others c ys zs _ _ (omega arith) keep' b;
  between = agree_kept nodes c xs ys bound next le keep a;
  second = agree_behind nodes others c ys zs _ _ (omega arith) b;
  room = omega (arith, room, length-ran nodes c ys);
}

-- ---- values

-- the value over the slots of the calls is that of the expression
mutual
  pub value-lifted : (e : TExpr) (next bound : ℕ) (c : Context) (xs ys zs : List Val) → reads_only e (below bound) ≡ true → bound ≤ next → next + calls_in e ≤ length ys
      → Agree bound xs ys → Agree (next + calls_in e) (ran (lifted_calls e next) c ys) zs
      → simple_value (record c { slots = zs }) (lifted e next) ≡ value (record c { slots = xs }) e
  value-lifted (Slot j) next bound c xs ys zs reads le room a b =
      let lt : j < bound = ltb-true _ _ reads in
      sym (b.agree j (omega arith)) ∙ sym (a.agree j lt)
  value-lifted (Agg' agg shape args place) next bound c xs ys zs reads le room a b =
      let own : ℕ = next + calls_in_all args in
      let call : AggUse = record { agg = agg; args = lifted_all args next; place = place } in
      let slots : List Val = ran (lifted_calls_all args next) c ys in
      let fits : own < length slots = omega (arith, length-ran (lifted_calls_all args next) c ys) in
      sym (b.agree own (omega arith))
      ∙ ap (λ all. at_slot all own) (ran-append (lifted_calls_all args next) (record { slot = own; call = call } ∷ []) c ys)
      ∙ get_or-set_same slots own (call_value (record c { slots = slots }) call) _ fits
      ∙ ap (called (record c { slots = xs }) agg)
      (values-lifted args next bound c xs ys slots reads le (omega arith) a (record { agree = λ i lt. refl }))
  value-lifted (Neg' shape (more_of-TExpr inner end_of-TExpr)) next bound c xs ys zs reads le room a b =
      value-Neg _ _ _ ∙ ap negated (value-lifted inner next bound c xs ys zs reads le room a b)
  value-lifted (Not' shape (more_of-TExpr inner end_of-TExpr)) next bound c xs ys zs reads le room a b =
      value-Not _ _ _ ∙ ap inverted (value-lifted inner next bound c xs ys zs reads le room a b)
  value-lifted (Binary' op shape (more_of-TExpr left end_of-TExpr) shape' (more_of-TExpr right end_of-TExpr) place) next bound c xs ys zs reads le room a b =
      let parts : (reads_only left (below bound) ≡ true) × (reads_only right (below bound) ≡ true) = and_parts _ _ reads in
      let slots : List Val = ran (lifted_calls left next) c ys in
      let h = halves (lifted_calls left next) (lifted_calls right (next + calls_in left)) c xs ys zs bound next (calls_in left) (calls_in right) le room
      (kept left next c ys) (kept right (next + calls_in left) c slots) a b in
      value-Binary _ _ _ _ _ _
      ∙ (λ i. operated op place (value-lifted left next bound c xs ys zs parts.0 le (omega (arith, room)) a h.first i)
      (value-lifted right (next + calls_in left) bound c xs slots zs parts.1 (omega (arith, le)) h.room h.between h.second i))
  value-lifted e next bound c xs ys zs reads le room a b = refl

  pub values-lifted : {m : _} (es : Row_of-TExpr m) (next bound : ℕ) (c : Context) (xs ys zs : List Val) → all_read_only es (below bound) ≡ true → bound ≤ next → next + calls_in_all es ≤ length ys
      → Agree bound xs ys → Agree (next + calls_in_all es) (ran (lifted_calls_all es next) c ys) zs
      → map (simple_value (record c { slots = zs })) (lifted_all es next) ≡ values_with (called (record c { slots = xs })) (record c { slots = xs }) es
  values-lifted end_of-TExpr next bound c xs ys zs reads le room a b = refl
  values-lifted (more_of-TExpr e rest) next bound c xs ys zs reads le room a b =
      let parts : (reads_only e (below bound) ≡ true) × (all_read_only rest (below bound) ≡ true) = and_parts _ _ reads in
      let slots : List Val = ran (lifted_calls e next) c ys in
      let h = halves (lifted_calls e next) (lifted_calls_all rest (next + calls_in e)) c xs ys zs bound next (calls_in e) (calls_in_all rest) le room
      (kept e next c ys) (kept_all rest (next + calls_in e) c slots) a b in
      λ i. value-lifted e next bound c xs ys zs parts.0 le (omega (arith, room)) a h.first i
      ∷ values-lifted rest (next + calls_in e) bound c xs slots zs parts.1 (omega (arith, le)) h.room h.between h.second i
