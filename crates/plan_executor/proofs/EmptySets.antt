-- A set without rows gives nothing and sets nothing.
use Rattle.std.proofs.Common.{◌≡◌, ℕ, ◌&&◌, Bool, false, List, [], refl, ap, sym, ◌∙◌, subst, arith}
use Rattle.std.specs.Prelude.{flat_map}
use Rattle.std.proofs.lemmas.Bool.{false≢true}
use Rattle.sgl_values.specs.declared.fault.Val.{Val}
use Rattle.sgl_values.specs.declared.item.Item.{Item}
use Rattle.sgl_typed.specs.Aggregate.{simple_value}
use Rattle.sgl_typed.specs.declared.script.TExpr.{TExpr}
use Rattle.battle_algebra.specs.Meaning.{Frame}
use Rattle.battle_algebra.specs.Tree.{Source}
use Rattle.sgl_lanes.specs.Lanes.{has}
use Rattle.plan_executor.specs.Frames.{Slots, with_slots, frames, members}
use Rattle.plan_executor.specs.Sinking.{Bounds, State, Pushes}
use Rattle.plan_executor.specs.Steps.{IsPart, IsSet}
use Rattle.plan_executor.proofs.Pushing.{Pushes_nothing}
use Rattle.sgl_lanes.proofs.LaneSets.{has_none, has_zero}
use Rattle.plan_executor.proofs.Starting.{first_members}

module _ (mask : ℕ) (none : mask ≡ 0) where
  has_not : (k : ℕ) → has mask k ≡ false
  has_not k = ap (λ m. has m k) none ∙ has_zero k

  pub no_members : members mask ≡ []
  no_members = ap members none ∙ first_members 0 0 (omega arith) has_none

  pub no_pushes : (base : ℕ → Frame) (slots : Slots) (give : Frame → List Item) (bounds : Bounds) (state : State) → Pushes bounds state state (flat_map give (frames base slots (members mask)))
  no_pushes base slots give bounds state =
      subst (λ rows. Pushes bounds state state (flat_map give (frames base slots rows))) (sym no_members) (Pushes_nothing bounds state)

  pub no_part : (base : ℕ → Frame) (slots : Slots) (e : TExpr) (passes : Val → Bool) → IsPart base slots e passes mask 0
  no_part base slots e passes = record { is = λ k. has_zero k ∙ sym (ap (λ b. b && passes (simple_value (with_slots base slots k) e)) (has_not k)) }

  pub no_set : (base : ℕ → Frame) (slot : ℕ) (source : Source) (slots : Slots) → IsSet base slot source mask slots slots
  no_set base slot source slots = record {
    inside = λ k is. absurd (false≢true (sym (has_not k) ∙ is));
    outside = λ k is. refl;
  }
