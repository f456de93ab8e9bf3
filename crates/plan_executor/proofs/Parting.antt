-- A set is parted, and items are given, by what lanes hold.
use Rattle.std.proofs.Common.{◌≡◌, ℕ, ℤ, pos, ◌<◌, cond, Bool, true, false, ◌&&◌, not, List, [], ◌∷◌, ◌++◌, refl, ap, sym, ◌∙◌, subst, map}
use Rattle.std.specs.Prelude.{filter, flat_map}
use Rattle.std.specs.Ordering.{int_eq}
use Rattle.sgl_values.specs.declared.fault.Val.{Val}
use Rattle.sgl_values.specs.declared.fault.Val.TheVariants.{B}
use Rattle.sgl_values.specs.declared.item.Item.{Item}
use Rattle.sgl_typed.specs.Aggregate.{simple_value}
use Rattle.sgl_typed.specs.Items.{writes}
use Rattle.sgl_typed.specs.declared.script.TExpr.{TExpr}
use Rattle.sgl_typed.specs.declared.script.TWrite.{TWrite}
use Rattle.battle_algebra.specs.Meaning.{Frame, condition_items, effects, is_taken, is_other}
use Rattle.battle_algebra.specs.declared.plan.EffectUse.{EffectUse}
use Rattle.sgl_lanes.specs.Lanes.{bit, has, lane_of, HoldEach, IsTruth}
use Rattle.sgl_lanes.specs.declared.kind.Lanes.TheVariants.{Truths}
use Rattle.sgl_lanes.specs.declared.values.LaneValues.{LaneValues}
use Rattle.plan_executor.specs.Below.{given_if}
use Rattle.plan_executor.specs.Clauses.{target_of, GiveBy}
use Rattle.plan_executor.specs.Frames.{Slots, with_slots, frames, members, all_rows}
use Rattle.plan_executor.specs.Running.{base_of, IsInside}
use Rattle.plan_executor.specs.Sinking.{Bounds, State, Pushes}
use Rattle.plan_executor.specs.Steps.{condition_of}
use Rattle.plan_executor.specs.declared.aiming.Aims.{Aims}
use Rattle.plan_executor.specs.declared.run.Run.{Run}
use Rattle.plan_executor.proofs.Pushing.{Pushes_nothing}

-- ---- the truths in lanes

truth_taken : (z : ℤ) (v : Val) → IsTruth z v → int_eq z (pos 1) ≡ is_taken v
truth_taken z v is = ap (λ n. int_eq n (pos 1)) is.stands ∙ step is.truth ∙ ap is_taken (sym is.value)
  where
    step : (t : Bool) → int_eq (bit t) (pos 1) ≡ is_taken (B t)
    step true = refl
    step false = refl

truth_other : (z : ℤ) (v : Val) → IsTruth z v → not (is_taken v) ≡ is_other v
truth_other z v is = ap (λ w. not (is_taken w)) is.value ∙ step is.truth ∙ ap is_other (sym is.value)
  where
    step : (t : Bool) → not (is_taken (B t)) ≡ is_other (B t)
    step true = refl
    step false = refl

module _ (mask : ℕ) (truths : List ℤ) (value : ℕ → Val) (hold : HoldEach Truths mask truths value) (below : (row : ℕ) → has mask row ≡ true → row < 64) where
  pub taken_rows : (ones taken : ℕ) → ((row : ℕ) → row < 64 → has ones row ≡ int_eq (lane_of truths row) (pos 1)) → ((row : ℕ) → has taken row ≡ (has mask row && has ones row))
      → (row : ℕ) → has taken row ≡ (has mask row && is_taken (value row))
  taken_rows ones taken are both row = both row ∙ step (has mask row) refl
    where
      step : (t : Bool) → has mask row ≡ t → (has mask row && has ones row) ≡ (has mask row && is_taken (value row))
      step true own = ap (λ b. has mask row && b) (are row (below row own) ∙ truth_taken (lane_of truths row) (value row) (hold row (below row own) own))
      step false out = ap (λ b. b && has ones row) out ∙ sym (ap (λ b. b && is_taken (value row)) out)

  pub other_rows : (taken other : ℕ) → ((row : ℕ) → has taken row ≡ (has mask row && is_taken (value row))) → ((row : ℕ) → has other row ≡ (has mask row && not (has taken row)))
      → (row : ℕ) → has other row ≡ (has mask row && is_other (value row))
  other_rows taken other are without row = without row ∙ step (has mask row) refl
    where
      step : (t : Bool) → has mask row ≡ t → (has mask row && not (has taken row)) ≡ (has mask row && is_other (value row))
      step true own =
          ap (λ b. has mask row && not b) (are row ∙ ap (λ b. b && is_taken (value row)) own)
          ∙ ap (λ b. has mask row && b) (truth_other (lane_of truths row) (value row) (hold row (below row own) own))
      step false out = ap (λ b. b && not (has taken row)) out ∙ sym (ap (λ b. b && is_other (value row)) out)

-- ---- rows that give nothing

frames_nothing : (give : Frame → List Item) (frame : ℕ → Frame) (p : ℕ → Bool) (rows : List ℕ) → ((row : ℕ) → p row ≡ true → give (frame row) ≡ []) → flat_map give (map frame (filter p rows)) ≡ []
frames_nothing give frame p [] none = refl
frames_nothing give frame p (row ∷ rows) none = step (frames_nothing give frame p rows none) (p row) refl
  where
    step : flat_map give (map frame (filter p rows)) ≡ [] → (t : Bool) → p row ≡ t → flat_map give (map frame (cond (p row) (row ∷ filter p rows) (filter p rows))) ≡ []
    step rest true is =
        ap (λ b. flat_map give (map frame (cond b (row ∷ filter p rows) (filter p rows)))) is ∙ ap (λ xs. xs ++ flat_map give (map frame (filter p rows))) (none row is) ∙ rest
    step rest false is = ap (λ b. flat_map give (map frame (cond b (row ∷ filter p rows) (filter p rows)))) is ∙ rest

truth_silent : (frame : Frame) (z : ℤ) (v : Val) → IsTruth z v → condition_items frame v ≡ []
truth_silent frame z v is = ap (condition_items frame) is.value

-- no truth is a fault
pub truths_silent : (run : Run) (slots : Slots) (e : TExpr) (mask : ℕ) (truths : List ℤ) (bounds : Bounds) (state : State) → IsInside run mask
    → HoldEach Truths mask truths (λ k. simple_value (with_slots (base_of run) slots k) e) → Pushes bounds state state (flat_map (condition_of e) (frames (base_of run) slots (members mask)))
unfolding members
truths_silent run slots e mask truths bounds state inside hold =
    subst (Pushes bounds state state) (sym (frames_nothing (condition_of e) (with_slots (base_of run) slots) (has mask) all_rows
    (λ row own. truth_silent (with_slots (base_of run) slots row) (lane_of truths row) _ (hold row (inside.below row own) own)))) (Pushes_nothing bounds state)

-- ---- rows with a target

module _ (run : Run) (slots : Slots) (act : EffectUse) (mask : ℕ) (writing : List TWrite) (aims : Aims) (amounts : List LaneValues) (gives : GiveBy run slots act mask writing aims amounts) where
  pub row_gave : {bounds : Bounds} {now next : State} (row : ℕ) → has aims.aimed row ≡ true → Pushes bounds now next (writes (gives.frame row) (target_of aims.targets row) writing)
      → Pushes bounds now next (given_if (has mask row) (effects act (with_slots (base_of run) slots row)))
  row_gave {bounds = bounds} {now = now} {next = next} row goes pushes =
      subst (Pushes bounds now next) (gives.hit row goes ∙ ap (λ b. given_if b (effects act (with_slots (base_of run) slots row))) (sym (gives.part row goes))) pushes

  pub row_gave_nothing : (bounds : Bounds) (now : State) (row : ℕ) → has aims.aimed row ≡ false → Pushes bounds now now (given_if (has mask row) (effects act (with_slots (base_of run) slots row)))
  row_gave_nothing bounds now row stays = subst (Pushes bounds now now) (step (has mask row) refl) (Pushes_nothing bounds now)
    where
      step : (t : Bool) → has mask row ≡ t → [] ≡ given_if (has mask row) (effects act (with_slots (base_of run) slots row))
      step true own = sym (gives.miss row own stays) ∙ ap (λ b. given_if b (effects act (with_slots (base_of run) slots row))) (sym own)
      step false out = ap (λ b. given_if b (effects act (with_slots (base_of run) slots row))) (sym out)
