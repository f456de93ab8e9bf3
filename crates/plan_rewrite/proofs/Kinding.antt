-- What is rewritten is of the script that the plan is of.
use Rattle.std.proofs.lemmas.Bool.Decides.{Decides-eqb}
use Rattle.std.proofs.Common.{Decides, ◌≡◌, ℕ, ◌==◌, Bool, true, false, List, [], ◌∷◌, map, refl, ap, sym, ◌∙◌, Option, Some, None}
use Rattle.std.specs.Prelude.{◌&&◌, slice_get, if◌then◌else◌}
use Rattle.std.proofs.lemmas.Bool.{and_parts, false≢true}
use Rattle.sgl_typed.proofs.Equations.{kind-Neg, kind-Not, kind-Binary, kind-Agg}
use Rattle.sgl_typed.specs.WellFormed.{Body, slot_kind, is_number, is_truth, operation_kind, fit, kind_of, kinds_of, kind_if, main_body}
use Rattle.sgl_typed.specs.declared.script.AggUse.{AggUse}
use Rattle.sgl_typed.specs.declared.script.Kind.{Kind}
use Rattle.sgl_typed.specs.declared.script.Kind.TheVariants.{Numeric, Logical}
use Rattle.sgl_typed.specs.declared.script.TAction.{TAction}
use Rattle.sgl_typed.specs.declared.script.TExpr.{TExpr, Row_of-TExpr, end_of-TExpr, more_of-TExpr}
use Rattle.sgl_typed.specs.declared.script.TExpr.TheVariants.{Slot, Agg', Neg', Not', Binary'}
use Rattle.sgl_typed.specs.declared.script.TScript.{TScript}
use Rattle.battle_algebra.specs.OfScript.{source_kind, one_kind, act_fits, formed, IsOf}
use Rattle.sgl_typed.specs.Renamed.{renamed, all_renamed}
use Rattle.plan_rewrite.specs.Rewrite.{Renaming, slot_for, moved, all_moved, moved_call, Known, slot_of, unified, rewritten}
use Rattle.battle_algebra.specs.Tree.{Computed, Called, Tree, Nothing, Setting, Parted, Acting, Joined, each}
use Rattle.battle_algebra.proofs.Bools.{both_true}
use Rattle.plan_rewrite.proofs.Tidying.{each-tidied}
use Rattle.plan_rewrite.proofs.Unifying.{known_way}
use Rattle.battle_algebra.specs.ChosenWays.{Ways}
use Rattle.std.proofs.lemmas.Option.{none-some, same_Some}

-- slots are read from slots of the same kind
abbrev Kept : Body → (ℕ → ℕ) → Type 0
Kept b to = (i : ℕ) → slot_kind (to i) b.slots ≡ slot_kind i b.slots

mutual
  kind-renamed : (e : TExpr) (b : Body) (to : ℕ → ℕ) → Kept b to → kind_of b (renamed to e) ≡ kind_of b e
  kind-renamed (Slot j) b to kept = kept j
  kind-renamed (Agg' agg shape args place) b to kept =
      kind-Agg b (record { agg = agg; args = all_renamed to args; place = place }) ∙ ap (λ ks. kind_if (fit (slice_get b.aggs agg) ks) Numeric) (kinds-renamed args b to kept)
  kind-renamed (Neg' shape (more_of-TExpr inner end_of-TExpr)) b to kept = kind-Neg b (renamed to inner) ∙ ap (λ k. kind_if (is_number k) Numeric) (kind-renamed inner b to kept)
  kind-renamed (Not' shape (more_of-TExpr inner end_of-TExpr)) b to kept = kind-Not b (renamed to inner) ∙ ap (λ k. kind_if (is_truth k) Logical) (kind-renamed inner b to kept)
  kind-renamed (Binary' op shape (more_of-TExpr left end_of-TExpr) shape' (more_of-TExpr right end_of-TExpr) place) b to kept =
      kind-Binary b op (renamed to left) (renamed to right) place ∙ (λ i. operation_kind op (kind-renamed left b to kept i) (kind-renamed right b to kept i))
  kind-renamed e b to kept = refl

  kinds-renamed : {m : _} (es : Row_of-TExpr m) (b : Body) (to : ℕ → ℕ) → Kept b to → map (kind_of b) (all_renamed to es) ≡ kinds_of b es
  kinds-renamed end_of-TExpr b to kept = refl
  kinds-renamed (more_of-TExpr e rest) b to kept = λ i. kind-renamed e b to kept i ∷ kinds-renamed rest b to kept i

kind-moved : (rs : List Renaming) (e : TExpr) (b : Body) → Kept b (slot_for rs) → kind_of b (moved rs e) ≡ kind_of b e
kind-moved [] e b kept = refl
kind-moved (r ∷ rs) e b kept = kind-renamed e b (slot_for (r ∷ rs)) kept

list-kinds-renamed : (es : List TExpr) (b : Body) (to : ℕ → ℕ) → Kept b to → map (kind_of b) (map (renamed to) es) ≡ map (kind_of b) es
list-kinds-renamed [] b to kept = refl
list-kinds-renamed (e ∷ es) b to kept = λ i. kind-renamed e b to kept i ∷ list-kinds-renamed es b to kept i

kinds-moved : (rs : List Renaming) (es : List TExpr) (b : Body) → Kept b (slot_for rs) → map (kind_of b) (all_moved rs es) ≡ map (kind_of b) es
kinds-moved [] es b kept = refl
kinds-moved (r ∷ rs) es b kept = list-kinds-renamed es b (slot_for (r ∷ rs)) kept

-- each known slot is a number
abbrev Numbers : Body → List Known → Type 0
Numbers b [] = Unit {0}
Numbers b (known ∷ more) = (slot_kind known.slot b.slots ≡ Some Numeric) × Numbers b more

found_number : (same : AggUse → AggUse → Bool) (above : List Known) (call : AggUse) (b : Body) (slot : ℕ) → Numbers b above → slot_of same call above ≡ Some slot → slot_kind slot b.slots ≡ Some Numeric
found_number same [] call b slot numbers h = absurd (none-some slot h)
found_number same (known ∷ more) call b slot numbers h = step (same call known.call) h numbers.0 (found_number same more call b slot numbers.1)
  where
    step : (x : Bool) → (if x then Some known.slot else slot_of same call more) ≡ Some slot → slot_kind known.slot b.slots ≡ Some Numeric → (slot_of same call more ≡ Some slot → slot_kind slot b.slots ≡ Some Numeric) → slot_kind slot b.slots ≡ Some Numeric
    step true h own later = ap (λ i. slot_kind i b.slots) (sym (same_Some known.slot slot h)) ∙ own
    step false h own later = later h

-- a slot that is set to a call is a number
call_number : (x : Bool) (k : Option Kind) → one_kind (kind_if x Numeric) k ≡ true → k ≡ Some Numeric
call_number true (Some Numeric) h = refl
call_number true (Some Logical) h = absurd (false≢true h)
call_number true None h = absurd (false≢true h)
call_number false k h = absurd (false≢true h)

kept_more : (b : Body) (slot other : ℕ) (rs : List Renaming) → slot_kind slot b.slots ≡ Some Numeric → slot_kind other b.slots ≡ Some Numeric → Kept b (slot_for rs) → Kept b (slot_for (record { from = slot; to = other } ∷ rs))
kept_more b slot other rs own other_own kept i = step (i == slot) (Decides-eqb i slot)
  where
    step : (x : Bool) → Decides x (i ≡ slot) → slot_kind (if x then other else slot_for rs i) b.slots ≡ slot_kind i b.slots
    step true d = other_own ∙ sym own ∙ ap (λ j. slot_kind j b.slots) (sym (d.0 refl))
    step false d = kept i

unified-formed : (same : AggUse → AggUse → Bool) (ways : Ways) (actions : List TAction) (b : Body) (t : Tree) (rs : List Renaming) (above : List Known)
    → Kept b (slot_for rs) → Numbers b above → each (formed actions b) t ≡ true → each (formed actions b) (unified same ways t rs above) ≡ true
unified-formed same ways actions b Nothing rs above kept numbers h = refl
unified-formed same ways actions b (Setting slot (Computed e place) below) rs above kept numbers h =
    let parts : (one_kind (kind_of b e) (slot_kind slot b.slots) ≡ true) × (each (formed actions b) below ≡ true) = and_parts _ _ h in
    both_true _ _ (ap (λ k. one_kind k (slot_kind slot b.slots)) (kind-moved rs e b kept) ∙ parts.0) (unified-formed same ways actions b below rs above kept numbers parts.1)
unified-formed same ways actions b (Setting slot (Called call way) below) rs above kept numbers h =
    let parts : (one_kind (source_kind b (Called call way)) (slot_kind slot b.slots) ≡ true) × (each (formed actions b) below ≡ true) = and_parts _ _ h in
    let own : slot_kind slot b.slots ≡ Some Numeric = call_number (fit (slice_get b.aggs call.agg) (map (kind_of b) call.args)) (slot_kind slot b.slots) parts.0 in
    known_way (slot_of same (moved_call rs call) above) _ _ (λ u. each (formed actions b) u ≡ true)
    (λ other is. unified-formed same ways actions b below (record { from = slot; to = other } ∷ rs) above
    (kept_more b slot other rs own (found_number same above (moved_call rs call) b other numbers is) kept) numbers parts.1)
    (λ none. both_true _ _
    (ap (λ ks. one_kind (kind_if (fit (slice_get b.aggs call.agg) ks) Numeric) (slot_kind slot b.slots)) (kinds-moved rs call.args b kept) ∙ parts.0)
    (unified-formed same ways actions b below rs (record { slot = slot; call = moved_call rs call } ∷ above) kept (own, numbers) parts.1))
unified-formed same ways actions b (Parted cond place taken other) rs above kept numbers h =
    let parts : (is_truth (kind_of b cond) ≡ true) × (each (formed actions b) taken && each (formed actions b) other ≡ true) = and_parts _ _ h in
    let parts' : (each (formed actions b) taken ≡ true) × (each (formed actions b) other ≡ true) = and_parts _ _ parts.1 in
    both_true _ _ (ap is_truth (kind-moved rs cond b kept) ∙ parts.0)
    (both_true _ _ (unified-formed same ways actions b taken rs above kept numbers parts'.0) (unified-formed same ways actions b other rs above kept numbers parts'.1))
unified-formed same ways actions b (Acting act way) rs above kept numbers h =
    ap (act_fits (slice_get actions act.action) act.clause) (kinds-moved rs act.args b kept) ∙ h
unified-formed same ways actions b (Joined left right) rs above kept numbers h =
    let parts : (each (formed actions b) left ≡ true) × (each (formed actions b) right ≡ true) = and_parts _ _ h in
    both_true _ _ (unified-formed same ways actions b left rs above kept numbers parts.0) (unified-formed same ways actions b right rs above kept numbers parts.1)

pub rewritten-of : (script : TScript) (same : AggUse → AggUse → Bool) (ways : Ways) (t : Tree) → IsOf script t → IsOf script (rewritten same ways t)
rewritten-of script same ways t of = record {
  kinds = of.kinds;
  fits =
      each-tidied (formed script.actions (main_body script.schema script.aggs of.kinds)) (unified same ways t [] [])
      (unified-formed same ways script.actions (main_body script.schema script.aggs of.kinds) t [] [] (λ i. refl) tt of.fits);
}
