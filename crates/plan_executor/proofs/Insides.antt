-- Sets of rows of the world stay so.
use Rattle.std.proofs.Common.{◌≡◌, ◌≢◌, ℕ, ◌+◌, ◌<◌, ◌≤◌, nat_lt, Bool, true, false, List, length, refl, ap, sym, ◌∙◌, subst, arith, Decides, ◌==◌}
use Rattle.std.specs.Prelude.{slice_index_or, slice_set}
use Rattle.std.proofs.lemmas.Bool.{and_parts, false≢true}
use Rattle.std.proofs.lemmas.Bool.Decides.{nat_tests, Decides-eqb}
use Rattle.std.proofs.lemmas.List.{length-set, get_or-set_same, get_or-set_other, get_or_past, get_or_default}
use Rattle.sgl_values.specs.declared.fault.Val.{Val}
use Rattle.sgl_typed.specs.Aggregate.{simple_value}
use Rattle.sgl_typed.specs.declared.script.TExpr.{TExpr}
use Rattle.battle_algebra.specs.Meaning.{Frame}
use Rattle.battle_algebra.specs.declared.plan.Node.{Node}
use Rattle.battle_algebra.specs.declared.plan.Node.TheVariants.{Empty}
use Rattle.sgl_lanes.specs.Lanes.{has}
use Rattle.plan_executor.specs.Frames.{Slots, with_slots, mask_at}
use Rattle.plan_executor.specs.Running.{IsInside, AreInside, AreEmpty}
use Rattle.plan_executor.specs.Steps.{IsPart}
use Rattle.plan_executor.specs.declared.run.Run.{Run}
use Rattle.sgl_lanes.proofs.LaneSets.{has_zero}

inside_zero : (run : Run) → IsInside run 0
inside_zero run = record { is = λ k own. absurd (false≢true (sym (has_zero k) ∙ own)); below = λ k own. absurd (false≢true (sym (has_zero k) ∙ own)) }

pub inside_set : (run : Run) (masks new : List ℕ) (at mask : ℕ) → at < 4294967296 → AreInside run masks → IsInside run mask → new ≡ slice_set masks at mask → AreInside run new
inside_set run masks new at mask small all one is = record {
  is = λ node. subst (λ ms. IsInside run (mask_at ms node)) (sym is) (step node (node == at) (Decides-eqb node at));
  none = λ node large. ap (λ ms. mask_at ms node) is ∙ get_or-set_other masks at node mask 0 (λ e. omega (arith, e, small, large)) ∙ all.none node large;
}
  where
    own : (t : Bool) → nat_lt at (length masks) ≡ t → IsInside run (mask_at (slice_set masks at mask) at)
    own true h = subst (IsInside run) (sym (get_or-set_same masks at mask 0 (grind (arith, nat_tests, h)))) one
    own false h = subst (IsInside run) (sym (get_or_past (slice_set masks at mask) at 0 (grind (arith, nat_tests, h, length-set masks at mask)))) (inside_zero run)

    step : (node : ℕ) (t : Bool) → Decides t (node ≡ at) → IsInside run (mask_at (slice_set masks at mask) node)
    step node true d = subst (λ n. IsInside run (mask_at (slice_set masks at mask) n)) (sym (d.0 refl)) (own (nat_lt at (length masks)) refl)
    step node false d = subst (IsInside run) (sym (get_or-set_other masks at node mask 0 (λ e. false≢true (d.1 e)))) (all.is node)

pub inside_part : (run : Run) (base : ℕ → Frame) (slots : Slots) (e : TExpr) (passes : Val → Bool) (mask part : ℕ) → IsInside run mask → IsPart base slots e passes mask part → IsInside run part
inside_part run base slots e passes mask part within is = record { is = λ k own. within.is k (both k own); below = λ k own. within.below k (both k own) }
  where
    both : (k : ℕ) → has part k ≡ true → has mask k ≡ true
    both k own =
        let parts : (has mask k ≡ true) × (passes (simple_value (with_slots base slots k) e) ≡ true) = and_parts _ _ (sym (is.is k) ∙ own) in
        parts.0

-- a node that is there, whatever stands past the end
pub node_is : (nodes : List Node) (node : ℕ) (d x : Node) → node < length nodes → slice_index_or nodes node d ≡ x → slice_index_or nodes node Empty ≡ x
node_is nodes node d x within is = get_or_default nodes node Empty d within ∙ is

pub inside_empty : (run : Run) (masks : List ℕ) → AreEmpty masks → AreInside run masks
inside_empty run masks none = record { is = λ node. subst (IsInside run) (sym (none.is node)) (inside_zero run); none = λ node large. none.is node }

pub inside_first : (run : Run) (count mask : ℕ) → ((k : ℕ) → has mask k ≡ nat_lt k count) → count ≤ 64 → run.first + count ≤ length run.tick.world.now.world.rows → IsInside run mask
inside_first run count mask first few within = record {
  is = λ k own. let lt : nat_lt k count ≡ true = sym (first k) ∙ own in grind (arith, nat_tests, lt, within);
  below = λ k own. let lt : nat_lt k count ≡ true = sym (first k) ∙ own in grind (arith, nat_tests, lt, few);
}

-- a node with rows has a number of 32 bits
pub number_small : (node mask : ℕ) → (4294967296 ≤ node → mask ≡ 0) → mask ≢ 0 → node < 4294967296
number_small node mask none some = step (nat_lt node 4294967296) refl
  where
    step : (t : Bool) → nat_lt node 4294967296 ≡ t → node < 4294967296
    step true h = grind (arith, nat_tests, h)
    step false h = absurd (some (none (grind (arith, nat_tests, h))))
