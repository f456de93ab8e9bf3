-- What the index of a task answers for a node.
use Rattle.std.proofs.Common.{◌≡◌, ℕ, ◌+◌, Bool, true, false, List, ap, refl, subst, sym, ◌∙◌}
use Rattle.std.specs.Prelude.{slice_index_or}
use Rattle.std.proofs.lemmas.Bool.{false≢true}
use Rattle.sgl_values.specs.World.{row_at}
use Rattle.sgl_values.specs.declared.fault.Val.{Val}
use Rattle.sgl_typed.specs.declared.script.AggUse.{AggUse}
use Rattle.battle_algebra.specs.Meaning.{Frame, call_value, source_value}
use Rattle.battle_algebra.specs.Tree.{Source, Computed, Called, node_of}
use Rattle.battle_algebra.specs.declared.plan.Node.{Node}
use Rattle.battle_algebra.specs.declared.plan.Node.TheVariants.{Empty, Agg}
use Rattle.battle_algebra.specs.declared.plan.Way.{Way}
use Rattle.index_set.specs.Frames.{frame_of}
use Rattle.index_set.specs.Sets.{seed_of, IsAnswerAt, IsIndexOf}
use Rattle.index_set.specs.declared.set.IndexOf.{IndexOf}
use Rattle.plan_executor.specs.Running.{base_of, CanRun}
use Rattle.plan_executor.specs.declared.run.Run.{Run}
use Rattle.plan_executor.proofs.PlanNodes.{node_there}

module _ (run : Run) (of : IndexOf) (can : CanRun run) (is : of ≡ record { script = run.tick.script; plan = run.plan; world = run.tick.world }) where
  -- the index was built of what the task reads
  pub built : IsIndexOf run.index.now of.script.now of.plan.now of.world.now.world (seed_of run.index.now)
  built =
      subst (λ (o : IndexOf). IsIndexOf run.index.now o.script.now o.plan.now o.world.now.world (seed_of run.index.now)) (sym is)
      (subst (λ (seed : ℕ). IsIndexOf run.index.now run.tick.script.now run.plan.now run.tick.world.now.world seed) (sym can.index.drawn) can.index)

  -- an answer is the value of the call, in the frame of a row
  pub answered : (node row unit : ℕ) (slots : List Val) (value : Val) → unit ≡ run.first + row
      → IsAnswerAt of.plan.now node (frame_of of.script.now of.world.now.world (seed_of run.index.now) (row_at of.world.now.world unit) slots) value
      → (slot : ℕ) (call : AggUse) (way : Way) (child : ℕ) → slice_index_or run.nodes.now node Empty ≡ Agg slot call way child
      → value ≡ call_value (record (base_of run row) { slots = slots }) call
  answered node row unit slots value at given slot call way child calls =
      let world = run.tick.world.now.world in
      let own : IsAnswerAt run.plan.now node (frame_of run.tick.script.now world (seed_of run.index.now) (row_at world (run.first + row)) slots) value
      = subst (λ (u : ℕ). IsAnswerAt run.plan.now node (frame_of run.tick.script.now world (seed_of run.index.now) (row_at world u) slots) value) at
      (subst (λ (o : IndexOf). IsAnswerAt o.plan.now node (frame_of o.script.now o.world.now.world (seed_of run.index.now) (row_at o.world.now.world unit) slots) value) is given) in
      subst (λ (seed : ℕ). value ≡ call_value (frame_of run.tick.script.now world seed (row_at world (run.first + row)) slots) call) can.index.drawn
      (own slot call way child (node_there run.nodes.now run.plan.now.plan.nodes node (Agg slot call way child) can.nodes calls refl))

abbrev is-call : Node → Bool
is-call (Agg slot call way child) = true
is-call other = false

-- where a node calls an aggregate, the value of the call is that of its source
pub sourced : (nodes : List Node) (node slot' : ℕ) (call' : AggUse) (way' : Way) (child' : ℕ) (f : Frame) (value : Val) → slice_index_or nodes node Empty ≡ Agg slot' call' way' child'
    → ((slot : ℕ) (call : AggUse) (way : Way) (child : ℕ) → slice_index_or nodes node Empty ≡ Agg slot call way child → value ≡ call_value f call)
    → (slot : ℕ) (source : Source) (child : ℕ) → slice_index_or nodes node Empty ≡ node_of slot source child → value ≡ source_value f source
sourced nodes node slot' call' way' child' f value calls given slot (Computed e place) child is = absurd (false≢true (ap is-call (sym is ∙ calls)))
sourced nodes node slot' call' way' child' f value calls given slot (Called call way) child is = given slot call way child is
