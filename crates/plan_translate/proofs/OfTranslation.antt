-- The translation of a script is of the script: numbers are in range, and kinds fit.
use Rattle.std.proofs.Common.{Decides, ◌==◌, ◌≡◌, ℕ, ◌+◌, ◌<◌, ◌≤◌, Bool, true, false, List, [], ◌∷◌, map, refl, ap, sym, ◌∙◌, arith, Option, Some, subst}
use Rattle.std.specs.List.{list_all}
use Rattle.std.specs.Prelude.{slice_get, if◌then◌else◌}
use Rattle.std.proofs.lemmas.Bool.{and_parts, false≢true}
use Rattle.std.proofs.lemmas.Bool.Decides.{Decides-eqb}
use Rattle.sgl_typed.proofs.Equations.{kind-Neg, kind-Not, kind-Binary, kinds-hidden}
use Rattle.sgl_typed.specs.WellFormed.{Body, slot_kind, is_number, is_truth, kind_if, operation_kind, fit, kind_of, kinds_of, is_formed}
use Rattle.sgl_typed.specs.declared.script.Kind.{Kind}
use Rattle.sgl_typed.specs.declared.script.Kind.TheVariants.{Numeric, Logical}
use Rattle.sgl_typed.specs.declared.script.TAction.{TAction}
use Rattle.sgl_typed.specs.declared.script.TExpr.{TExpr, Row_of-TExpr, end_of-TExpr, more_of-TExpr}
use Rattle.sgl_typed.specs.declared.script.TExpr.TheVariants.{Slot, Agg', Neg', Not', Binary'}
use Rattle.plan_translate.specs.Calls.{Lifted, calls_in, calls_in_all, lifted, lifted_all, lifted_calls, lifted_calls_all}
use Rattle.battle_algebra.specs.OfScript.{one_kind, formed}
use Rattle.plan_translate.specs.Translation.{with_calls, calls_in_list, lifted_list, lifted_calls_list}
use Rattle.battle_algebra.specs.Tree.{Tree, each}
use Rattle.battle_algebra.proofs.Bools.{both_true}
use Rattle.plan_translate.proofs.Fitting.{with_calls-append}
use Rattle.sgl_typed.proofs.Scope.{formed_if, number_formed, truth_formed, BothFormed, both_formed, fit_numbers}
use Rattle.sgl_typed.specs.declared.script.TExpr.TheBlock.{hidden-the_row-TExpr-0}
use Rattle.plan_translate.proofs.Equations.{all-calls_in, all-lifted, all-lifted_calls}

-- these slots have these kinds among others
abbrev pub Knows : List (ℕ × Kind) → List (ℕ × Kind) → Type 0
Knows all [] = Unit {0}
Knows all (slot ∷ more) = (slot_kind slot.0 all ≡ Some slot.1) × Knows all more

-- so many slots from a number on are numbers
abbrev pub AreNumbers : List (ℕ × Kind) → ℕ → ℕ → Type 0
AreNumbers all n k = (i : ℕ) → n ≤ i → i < n + k → slot_kind i all ≡ Some Numeric

pub part : (all : List (ℕ × Kind)) (n k m j : ℕ) → AreNumbers all n k → n ≤ m → m + j ≤ n + k → AreNumbers all m j
part all n k m j h le fits = λ i ge lt. h i (omega (arith, le, ge)) (omega (arith, lt, fits))

scope_same : (all slots : List (ℕ × Kind)) (i : ℕ) → Knows all slots → is_formed (slot_kind i slots) ≡ true → slot_kind i all ≡ slot_kind i slots
scope_same all [] i knows h = absurd (false≢true h)
scope_same all (slot ∷ more) i knows h = step (i == slot.0) (Decides-eqb i slot.0) h (scope_same all more i knows.1)
  where
    step : (b : Bool) → Decides b (i ≡ slot.0) → is_formed (if b then Some slot.1 else slot_kind i more) ≡ true → (is_formed (slot_kind i more) ≡ true → slot_kind i all ≡ slot_kind i more)
        → slot_kind i all ≡ (if b then Some slot.1 else slot_kind i more)
    step true d h later = ap (λ j. slot_kind j all) (d.0 refl) ∙ knows.0
    step false d h later = later h

-- the body of the plan, of which each scope of the script is a part
abbrev pub among : Body → List (ℕ × Kind) → Body
among b all = record b { slots = all }

kind_if_formed : (x : Bool) (kind : Kind) → is_formed (kind_if x kind) ≡ true → kind_if x kind ≡ Some kind
kind_if_formed true kind h = refl
kind_if_formed false kind h = absurd (false≢true h)

mutual
  pub kind-lifted : (e : TExpr) (b : Body) (all : List (ℕ × Kind)) (next : ℕ) → Knows all b.slots → AreNumbers all next (calls_in e) → is_formed (kind_of b e) ≡ true → kind_of (among b all) (lifted e next) ≡ kind_of b e
  kind-lifted (Slot j) b all next knows numbers h = scope_same all b.slots j knows h
  kind-lifted (Agg' agg shape args place) b all next knows numbers h =
      numbers (next + calls_in_all args) (omega arith) (omega arith) ∙ sym (kind_if_formed (fit (slice_get b.aggs agg) (kinds_of b args)) Numeric h)
  kind-lifted (Neg' shape (more_of-TExpr inner end_of-TExpr)) b all next knows numbers h =
      kind-Neg (among b all) (lifted inner next) ∙ ap (λ k. kind_if (is_number k) Numeric) (kind-lifted inner b all next knows numbers (number_formed (kind_of b inner) (formed_if _ Numeric h)))
  kind-lifted (Not' shape (more_of-TExpr inner end_of-TExpr)) b all next knows numbers h =
      kind-Not (among b all) (lifted inner next) ∙ ap (λ k. kind_if (is_truth k) Logical) (kind-lifted inner b all next knows numbers (truth_formed (kind_of b inner) (formed_if _ Logical h)))
  kind-lifted (Binary' op shape (more_of-TExpr left end_of-TExpr) shape' (more_of-TExpr right end_of-TExpr) place) b all next knows numbers h =
      let sides : BothFormed (kind_of b left) (kind_of b right) = both_formed op (kind_of b left) (kind_of b right) h in
      kind-Binary (among b all) op (lifted left next) (lifted right (next + calls_in left)) place
      ∙ (λ i. operation_kind op
      (kind-lifted left b all next knows (part all next (calls_in left + calls_in right) next (calls_in left) numbers (omega arith) (omega arith)) sides.0 i)
      (kind-lifted right b all (next + calls_in left) knows (part all next (calls_in left + calls_in right) (next + calls_in left) (calls_in right) numbers (omega arith) (omega arith)) sides.1 i))
  kind-lifted e b all next knows numbers h = refl

  kinds-lifted : {m : _} (es : Row_of-TExpr m) (b : Body) (all : List (ℕ × Kind)) (next : ℕ) → Knows all b.slots → AreNumbers all next (calls_in_all es) → list_all is_number (kinds_of b es) ≡ true
      → map (kind_of (among b all)) (lifted_all es next) ≡ kinds_of b es
  kinds-lifted end_of-TExpr b all next knows numbers h = refl
  kinds-lifted (more_of-TExpr e rest) b all next knows numbers h =
      let parts : (is_number (kind_of b e) ≡ true) × (list_all is_number (kinds_of b rest) ≡ true) = and_parts _ _ h in
      λ i. kind-lifted e b all next knows (part all next (calls_in e + calls_in_all rest) next (calls_in e) numbers (omega arith) (omega arith)) (number_formed (kind_of b e) parts.0) i
      ∷ kinds-lifted rest b all (next + calls_in e) knows (part all next (calls_in e + calls_in_all rest) (next + calls_in e) (calls_in_all rest) numbers (omega arith) (omega arith)) parts.1 i

pub list-kinds-lifted : (es : List TExpr) (b : Body) (all : List (ℕ × Kind)) (next : ℕ) → Knows all b.slots → AreNumbers all next (calls_in_list es) → list_all is_number (map (kind_of b) es) ≡ true
    → map (kind_of (among b all)) (lifted_list es next) ≡ map (kind_of b) es
list-kinds-lifted es b all next knows numbers h =
    ap (map (kind_of (among b all))) (sym (all-lifted es next))
    ∙ kinds-lifted (hidden-the_row-TExpr-0 es) b all next knows (subst (AreNumbers all next) (sym (all-calls_in es)) numbers) (ap (list_all is_number) (kinds-hidden b es) ∙ h)
    ∙ kinds-hidden b es

-- a call that fits, at a slot that is a number
call_formed : (x : Bool) (k : Option Kind) → x ≡ true → k ≡ Some Numeric → one_kind (kind_if x Numeric) k ≡ true
call_formed x k h same = λ i. one_kind (kind_if (h i) Numeric) (same i)

mutual
  pub calls-formed : (e : TExpr) (actions : List TAction) (b : Body) (all : List (ℕ × Kind)) (next : ℕ) (t : Tree) → Knows all b.slots → AreNumbers all next (calls_in e) → is_formed (kind_of b e) ≡ true
      → each (formed actions (among b all)) t ≡ true → each (formed actions (among b all)) (with_calls (lifted_calls e next) t) ≡ true
  calls-formed (Agg' agg shape args place) actions b all next t knows numbers h rest =
      let fits : fit (slice_get b.aggs agg) (kinds_of b args) ≡ true = formed_if _ Numeric h in
      let all_numbers : list_all is_number (kinds_of b args) ≡ true = fit_numbers (slice_get b.aggs agg) (kinds_of b args) fits in
      let fewer : AreNumbers all next (calls_in_all args) = part all next (calls_in_all args + 1) next (calls_in_all args) numbers (omega arith) (omega arith) in
      let own : Lifted = record { slot = next + calls_in_all args; call = record { agg = agg; args = lifted_all args next; place = place } } in
      ap (each (formed actions (among b all))) (with_calls-append (lifted_calls_all args next) (own ∷ []) t)
      ∙ calls-formed-all args actions b all next (with_calls (own ∷ []) t) knows fewer all_numbers
      (both_true _ _
      (call_formed (fit (slice_get b.aggs agg) (map (kind_of (among b all)) (lifted_all args next))) (slot_kind (next + calls_in_all args) all)
      (ap (fit (slice_get b.aggs agg)) (kinds-lifted args b all next knows fewer all_numbers) ∙ fits) (numbers (next + calls_in_all args) (omega arith) (omega arith))) rest)
  calls-formed (Neg' shape (more_of-TExpr inner end_of-TExpr)) actions b all next t knows numbers h rest = calls-formed inner actions b all next t knows numbers (number_formed (kind_of b inner) (formed_if _ Numeric h)) rest
  calls-formed (Not' shape (more_of-TExpr inner end_of-TExpr)) actions b all next t knows numbers h rest = calls-formed inner actions b all next t knows numbers (truth_formed (kind_of b inner) (formed_if _ Logical h)) rest
  calls-formed (Binary' op shape (more_of-TExpr left end_of-TExpr) shape' (more_of-TExpr right end_of-TExpr) place) actions b all next t knows numbers h rest =
      let sides : BothFormed (kind_of b left) (kind_of b right) = both_formed op (kind_of b left) (kind_of b right) h in
      ap (each (formed actions (among b all))) (with_calls-append (lifted_calls left next) (lifted_calls right (next + calls_in left)) t)
      ∙ calls-formed left actions b all next (with_calls (lifted_calls right (next + calls_in left)) t) knows (part all next (calls_in left + calls_in right) next (calls_in left) numbers (omega arith) (omega arith)) sides.0
      (calls-formed right actions b all (next + calls_in left) t knows (part all next (calls_in left + calls_in right) (next + calls_in left) (calls_in right) numbers (omega arith) (omega arith)) sides.1 rest)
  calls-formed e actions b all next t knows numbers h rest = rest

  calls-formed-all : {m : _} (es : Row_of-TExpr m) (actions : List TAction) (b : Body) (all : List (ℕ × Kind)) (next : ℕ) (t : Tree) → Knows all b.slots → AreNumbers all next (calls_in_all es) → list_all is_number (kinds_of b es) ≡ true
      → each (formed actions (among b all)) t ≡ true → each (formed actions (among b all)) (with_calls (lifted_calls_all es next) t) ≡ true
  calls-formed-all end_of-TExpr actions b all next t knows numbers h rest = rest
  calls-formed-all (more_of-TExpr e more) actions b all next t knows numbers h rest =
      let parts : (is_number (kind_of b e) ≡ true) × (list_all is_number (kinds_of b more) ≡ true) = and_parts _ _ h in
      ap (each (formed actions (among b all))) (with_calls-append (lifted_calls e next) (lifted_calls_all more (next + calls_in e)) t)
      ∙ calls-formed e actions b all next (with_calls (lifted_calls_all more (next + calls_in e)) t) knows (part all next (calls_in e + calls_in_all more) next (calls_in e) numbers (omega arith) (omega arith)) (number_formed (kind_of b e) parts.0)
      (calls-formed-all more actions b all (next + calls_in e) t knows (part all next (calls_in e + calls_in_all more) (next + calls_in e) (calls_in_all more) numbers (omega arith) (omega arith)) parts.1 rest)

pub list-calls-formed : (es : List TExpr) (actions : List TAction) (b : Body) (all : List (ℕ × Kind)) (next : ℕ) (t : Tree) → Knows all b.slots → AreNumbers all next (calls_in_list es) → list_all is_number (map (kind_of b) es) ≡ true
    → each (formed actions (among b all)) t ≡ true → each (formed actions (among b all)) (with_calls (lifted_calls_list es next) t) ≡ true
list-calls-formed es actions b all next t knows numbers h rest =
    subst (λ calls. each (formed actions (among b all)) (with_calls calls t) ≡ true) (all-lifted_calls es next)
    (calls-formed-all (hidden-the_row-TExpr-0 es) actions b all next t knows (subst (AreNumbers all next) (sym (all-calls_in es)) numbers) (ap (list_all is_number) (kinds-hidden b es) ∙ h) rest)
