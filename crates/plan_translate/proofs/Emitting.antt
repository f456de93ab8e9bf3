-- Nodes that are written one after the other.
use Rattle.std.proofs.Common.{◌≡◌, ℕ, ◌+◌, List, [], ◌∷◌, ◌++◌, length, get_or, ◌<◌, refl, ap, sym, ◌∙◌, subst, arith, append_assoc, length-append}
use Rattle.std.proofs.lemmas.List.{append-nil}
use Rattle.sgl_values.specs.declared.place.Place.{Place}
use Rattle.sgl_values.specs.declared.operator.BinOp.{BinOp}
use Rattle.sgl_typed.specs.declared.script.AggUse.{AggUse}
use Rattle.sgl_typed.specs.declared.script.TExpr.{TExpr, Row_of-TExpr, end_of-TExpr, more_of-TExpr}
use Rattle.sgl_typed.specs.declared.script.TExpr.TheVariants.{Slot, Agg, Binary, Agg', Neg', Not', Binary'}
use Rattle.sgl_typed.specs.declared.script.TExpr.TheBlock.{hidden-the_row-TExpr-0}
use Rattle.plan_translate.specs.Calls.{Lifted, calls_in, calls_in_all, lifted, lifted_calls, lifted_calls_all}
use Rattle.plan_translate.specs.Emission.{call_nodes, Emits}
use Rattle.plan_translate.specs.Sides.{over_sides}
use Rattle.plan_translate.specs.Translation.{calls_in_list, lifted_list, lifted_calls_list}
use Rattle.battle_algebra.specs.declared.plan.Node.{Node}
use Rattle.battle_algebra.specs.declared.plan.Node.TheVariants as NodeOf
use Rattle.battle_algebra.specs.declared.plan.Way.TheVariants.{Scan}
use Rattle.plan_translate.specs.declared.translation.Emitted.{Emitted}
use Rattle.plan_translate.specs.Lists.{LiftsAll}
use Rattle.std.proofs.Common.{take}
use Rattle.std.proofs.lemmas.List.{take_more}
use Rattle.plan_translate.proofs.Equations.{all-calls_in, all-lifted_calls, calls_in-Binary, lifted-Agg, lifted-Binary, lifted_calls-Agg, lifted_calls-Binary, sides-Binary}

mutual
  pub length-lifted_calls : (e : TExpr) (next : ℕ) → length (lifted_calls e next) ≡ calls_in e
  length-lifted_calls (Agg' agg shape args place) next =
      length-append (lifted_calls_all args next) _ ∙ ap (λ n. n + 1) (length-lifted_calls_all args next)
  length-lifted_calls (Neg' shape (more_of-TExpr inner end_of-TExpr)) next = length-lifted_calls inner next
  length-lifted_calls (Not' shape (more_of-TExpr inner end_of-TExpr)) next = length-lifted_calls inner next
  length-lifted_calls (Binary' op shape (more_of-TExpr left end_of-TExpr) shape' (more_of-TExpr right end_of-TExpr) place) next =
      length-append (lifted_calls left next) _ ∙ (λ i. length-lifted_calls left next i + length-lifted_calls right (next + calls_in left) i)
  length-lifted_calls e next = refl

  pub length-lifted_calls_all : {m : _} (es : Row_of-TExpr m) (next : ℕ) → length (lifted_calls_all es next) ≡ calls_in_all es
  length-lifted_calls_all end_of-TExpr next = refl
  length-lifted_calls_all (more_of-TExpr e rest) next =
      length-append (lifted_calls e next) _ ∙ (λ i. length-lifted_calls e next i + length-lifted_calls_all rest (next + calls_in e) i)

pub length-lifted_calls_list : (es : List TExpr) (next : ℕ) → length (lifted_calls_list es next) ≡ calls_in_list es
length-lifted_calls_list es next = ap length (sym (all-lifted_calls es next)) ∙ length-lifted_calls_all (hidden-the_row-TExpr-0 es) next ∙ all-calls_in es

abbrev Node-Agg : Lifted → ℕ → Node
Node-Agg lifting at = NodeOf.Agg lifting.slot lifting.call Scan (at + 1)

pub length-call_nodes : (calls : List Lifted) (at : ℕ) → length (call_nodes calls at) ≡ length calls
length-call_nodes [] at = refl
length-call_nodes (lifting ∷ more) at = omega (arith, length-call_nodes more (at + 1))

call_nodes-append : (calls more : List Lifted) (at : ℕ) → call_nodes (calls ++ more) at ≡ call_nodes calls at ++ call_nodes more (at + length calls)
call_nodes-append [] more at = ap (call_nodes more) (omega arith)
call_nodes-append (lifting ∷ calls) more at =
    let behind : (at + 1 + length calls) ≡ (at + length (lifting ∷ calls)) = omega arith in
    λ i. Node-Agg lifting at ∷ (call_nodes-append calls more (at + 1) ∙ (λ j. call_nodes calls (at + 1) ++ call_nodes more (behind j))) i

-- ---- what was written

pub Emits_none : (out : Emitted) → Emits out out []
Emits_none out = record { nodes = sym (append-nil _); next = omega arith }

pub Emits_append : {a b c : Emitted} {xs ys : List Lifted} → Emits a b xs → Emits b c ys → Emits a c (xs ++ ys)
Emits_append {a = a} {b = b} {c = c} {xs = xs} {ys = ys} first second = record {
  nodes =
      let at : length b.nodes ≡ length a.nodes + length xs =
      ap length first.nodes ∙ length-append a.nodes _ ∙ ap (λ n. length a.nodes + n) (length-call_nodes xs (length a.nodes)) in
      second.nodes ∙ (λ i. first.nodes i ++ call_nodes ys (at i)) ∙ append_assoc a.nodes _ _
      ∙ ap (λ more. a.nodes ++ more) (sym (call_nodes-append xs ys (length a.nodes)));
  next = omega (arith, first.next, second.next, length-append xs ys);
}

-- ---- expressions

pub next_binary : (e l r l' r' : TExpr) (op : BinOp) (place : Place) (a b c : ℕ) → e ≡ Binary op l r place → l' ≡ l → r' ≡ r → b ≡ a + calls_in l' → c ≡ b + calls_in r' → c ≡ a + calls_in e
next_binary e l r l' r' op place a b c is same same' first second =
    let all : calls_in e ≡ calls_in l' + calls_in r' = ap calls_in is ∙ calls_in-Binary op l r place ∙ (λ i. calls_in (sym same i) + calls_in (sym same' i)) in
    omega (arith, all, first, second)

pub next_behind : (out new : Emitted) (l : TExpr) → Emits out new (lifted_calls l out.next) → new.next ≡ out.next + calls_in l
next_behind out new l emits = emits.next ∙ ap (λ n. out.next + n) (length-lifted_calls l out.next)

pub lifted_binary : (out new : Emitted) (e l r l' r' v w : TExpr) (op : BinOp) (place : Place) → e ≡ Binary op l r place → l' ≡ l → r' ≡ r
    → Emits out new (lifted_calls l' out.next) → v ≡ lifted l' out.next → w ≡ lifted r' new.next → over_sides e v w ≡ lifted e out.next
lifted_binary out new e l r l' r' v w op place is same same' emits left right =
    ap (λ e. over_sides e v w) is ∙ sides-Binary op l r v w place
    ∙ (λ i. Binary op ((left ∙ ap (λ l. lifted l out.next) same) i)
    ((right ∙ (λ j. lifted (same' j) ((next_behind out new l' emits ∙ ap (λ l. out.next + calls_in l) same) j))) i) place)
    ∙ sym (lifted-Binary op l r place out.next) ∙ ap (λ e. lifted e out.next) (sym is)

pub emits_binary : (out new last : Emitted) (e l r l' r' : TExpr) (op : BinOp) (place : Place) → e ≡ Binary op l r place → l' ≡ l → r' ≡ r
    → Emits out new (lifted_calls l' out.next) → Emits new last (lifted_calls r' new.next) → Emits out last (lifted_calls e out.next)
emits_binary out new last e l r l' r' op place is same same' first second =
    subst (Emits out last)
    ((λ i. lifted_calls (same i) out.next ++ lifted_calls (same' i) ((next_behind out new l' first ∙ ap (λ l. out.next + calls_in l) same) i))
    ∙ sym (lifted_calls-Binary op l r place out.next) ∙ ap (λ e. lifted_calls e out.next) (sym is))
    (Emits_append first second)

own_slot : (out new : Emitted) (call : AggUse) (args : List TExpr) → args ≡ call.args → Emits out new (lifted_calls_list args out.next) → new.next ≡ out.next + calls_in_list call.args
own_slot out new call args same emits = omega (arith, emits.next, length-lifted_calls_list args out.next, ap calls_in_list same)

pub lifted_agg : (out new : Emitted) (e : TExpr) (call : AggUse) (args : List TExpr) (slot : ℕ) → e ≡ Agg call → args ≡ call.args
    → Emits out new (lifted_calls_list args out.next) → slot ≡ new.next → Slot slot ≡ lifted e out.next
lifted_agg out new e call args slot is same emits own =
    ap Slot (own ∙ own_slot out new call args same emits) ∙ sym (lifted-Agg call out.next) ∙ ap (λ e. lifted e out.next) (sym is)

pub emits_agg : (out new last : Emitted) (e : TExpr) (call : AggUse) (args args' : List TExpr) → e ≡ Agg call → args ≡ call.args
    → Emits out new (lifted_calls_list args out.next) → args' ≡ lifted_list args out.next
    → Emits new last (record { slot = new.next; call = record { agg = call.agg; args = args'; place = call.place } } ∷ [])
    → Emits out last (lifted_calls e out.next)
emits_agg out new last e call args args' is same first lift second =
    subst (Emits out last)
    ((λ i. lifted_calls_list (same i) out.next
    ++ record { slot = own_slot out new call args same first i; call = record { agg = call.agg; args = (lift ∙ ap (λ es. lifted_list es out.next) same) i; place = call.place } } ∷ [])
    ∙ sym (lifted_calls-Agg call out.next) ∙ ap (λ e. lifted_calls e out.next) (sym is))
    (Emits_append first second)

-- ---- lists of expressions

calls-append : (xs ys : List TExpr) → calls_in_list (xs ++ ys) ≡ calls_in_list xs + calls_in_list ys
calls-append [] ys = omega arith
calls-append (x ∷ xs) ys = omega (arith, calls-append xs ys)

calls-push : (es : List TExpr) (e : TExpr) → calls_in_list (es ++ e ∷ []) ≡ calls_in_list es + calls_in e
calls-push es e = omega (arith, calls-append es (e ∷ []))

lifted-push : (es : List TExpr) (e : TExpr) (next : ℕ) → lifted_list (es ++ e ∷ []) next ≡ lifted_list es next ++ lifted e (next + calls_in_list es) ∷ []
lifted-push [] e next = ap (λ n. lifted e n ∷ []) (omega arith)
lifted-push (x ∷ es) e next =
    let at : (next + calls_in x + calls_in_list es) ≡ (next + calls_in_list (x ∷ es)) = omega arith in
    λ i. lifted x next ∷ (lifted-push es e (next + calls_in x) ∙ (λ j. lifted_list es (next + calls_in x) ++ lifted e (at j) ∷ [])) i

lifted_calls-push : (es : List TExpr) (e : TExpr) (next : ℕ) → lifted_calls_list (es ++ e ∷ []) next ≡ lifted_calls_list es next ++ lifted_calls e (next + calls_in_list es)
lifted_calls-push [] e next =
    let at : next ≡ next + 0 = omega arith in
    append-nil _ ∙ ap (lifted_calls e) at
lifted_calls-push (x ∷ es) e next =
    let at : (next + calls_in x + calls_in_list es) ≡ (next + calls_in_list (x ∷ es)) = omega arith in
    (λ i. lifted_calls x next ++ (lifted_calls-push es e (next + calls_in x) ∙ (λ j. lifted_calls_list es (next + calls_in x) ++ lifted_calls e (at j))) i)
    ∙ sym (append_assoc (lifted_calls x next) _ _)

pub taken : (es : List TExpr) (i : ℕ) (e : TExpr) → i < length es → e ≡ get_or es i e → take (i + 1) es ≡ take i es ++ e ∷ []
taken es i e lt is = take_more es i e lt ∙ ap (λ x. take i es ++ x ∷ []) (sym is)

pub lifts_more : (start now new : Emitted) (es done done' : List TExpr) (i : ℕ) (e v : TExpr) → i < length es → e ≡ get_or es i e → LiftsAll start now es i done
    → new.next ≡ now.next + calls_in e → v ≡ lifted e now.next → Emits now new (lifted_calls e now.next)
    → done' ≡ done ++ v ∷ [] → LiftsAll start new es (i + 1) done'
lifts_more start now new es done done' i e v lt is before next lift emits pushed = record {
  done_is =
      pushed ∙ (λ j. before.done_is j ++ (lift ∙ ap (lifted e) before.next) j ∷ [])
      ∙ sym (lifted-push (take i es) e start.next) ∙ ap (λ xs. lifted_list xs start.next) (sym (taken es i e lt is));
  emits =
      subst (Emits start new)
      ((λ j. lifted_calls_list (take i es) start.next ++ lifted_calls e (before.next j))
      ∙ sym (lifted_calls-push (take i es) e start.next) ∙ ap (λ xs. lifted_calls_list xs start.next) (sym (taken es i e lt is)))
      (Emits_append before.emits emits);
  next = omega (arith, next, before.next, calls-push (take i es) e, ap calls_in_list (taken es i e lt is));
}
