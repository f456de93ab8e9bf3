-- The answers of the uses of extremes.
use Rattle.std.specs.Prelude.{◌≡◌, ℕ, ◌<◌, ◌≤◌, true, List, length, slice_get, slice_index_or, Option, None, Some}
use Rattle.std.specs.Option.{option_map}
use Rattle.sgl_values.specs.World.{World, row_at}
use Rattle.sgl_values.specs.declared.fault.Val.{Val}
use Rattle.key_table.specs.Keys.{keys_of}
use Rattle.sgl_typed.specs.declared.script.AggUse.{AggUse}
use Rattle.sgl_typed.specs.declared.script.TAgg.{TAgg}
use Rattle.sgl_typed.specs.declared.script.TScript.{TScript}
use Rattle.battle_algebra.specs.Meaning.{call_value}
use Rattle.battle_algebra.specs.Ways.{all_fixed, few_groups, is_boxed}
use Rattle.battle_algebra.specs.declared.plan.Node.{Node}
use Rattle.battle_algebra.specs.declared.plan.Node.TheVariants.{Agg}
use Rattle.group_sweeps.specs.Extremes.{is_extreme}
use Rattle.group_sweeps.specs.Swept.{swept_value}
use Rattle.group_sweeps.specs.declared.swept.Swept.{Swept}
use Rattle.index_set.specs.Frames.{frame_of}
use Rattle.index_set.specs.declared.source.Source.{Source}
use Rattle.index_set.specs.declared.sweep_call.SweepCall.{SweepCall}
use Rattle.index_set.specs.declared.sweeps.Sweeps.{Sweeps}
use Rattle.index_set.specs.declared.swept_use.SweptUse.{SweptUse}
use Rattle.sgl_values.specs.declared.limit.TheConstants.{PARAMS_MAX}

-- the call of a node
abbrev pub call_of_node : Option Node → Option AggUse
call_of_node (Some (Agg slot call way child)) = Some call
call_of_node other = None

abbrev pub call_in : List Node → ℕ → Option AggUse
call_in nodes node = call_of_node (slice_get nodes node)

-- the answers with a number, where there is one
abbrev pub answers_in : List SweptUse → Option ℕ → Option Swept
answers_in uses None = None
answers_in uses (Some number) = option_map (λ kept. kept.swept) (slice_get uses number)

-- the answers of a node
abbrev pub swept_in : Sweeps → ℕ → Option Swept
swept_in sweeps node = answers_in sweeps.uses (slice_index_or sweeps.nodes.items node None)

-- for each row the answer is the value of the call, whatever the slots are
abbrev pub IsSweptFor : Swept → TScript → World → ℕ → AggUse → Type 0
IsSweptFor swept script world seed call = (agg : TAgg) (row : ℕ) (slots : List Val) → slice_get script.aggs call.agg ≡ Some agg → row < length world.rows
    → swept_value swept agg world row ≡ call_value (frame_of script world seed (row_at world row) slots) call

-- the answers with this number are there, and are those of the call
pub record IsSweptAt (uses : List SweptUse) (number : ℕ) (script : TScript) (world : World) (seed : ℕ) (call : AggUse) : Type 0 where
  pub kept : SweptUse
  pub at : slice_get uses number ≡ Some kept
  pub own : IsSweptFor kept.swept script world seed call

-- where there are answers and a call, they are those of the call
abbrev pub AreOwn : List SweptUse → Option ℕ → TScript → World → ℕ → Option AggUse → Type 0
AreOwn uses one script world seed asked = (number : ℕ) (call : AggUse) → one ≡ Some number → asked ≡ Some call → IsSweptAt uses number script world seed call

-- all answers are those of the calls of their nodes
abbrev pub AreUses : List SweptUse → TScript → World → ℕ → List Node → Type 0
AreUses uses script world seed nodes = (number : ℕ) (kept : SweptUse) (call : AggUse) → slice_get uses number ≡ Some kept → call_in nodes kept.node ≡ Some call
    → IsSweptFor kept.swept script world seed call

-- so are those that the first nodes have
pub record AreSwept (sweeps : Sweeps) (script : TScript) (world : World) (seed : ℕ) (nodes : List Node) (count : ℕ) : Type 0 where
  pub all : length sweeps.nodes.items ≡ count
  pub uses : AreUses sweeps.uses script world seed nodes
  pub own : (node number : ℕ) (call : AggUse) → slice_index_or sweeps.nodes.items node None ≡ Some number → call_in nodes node ≡ Some call
      → IsSweptAt sweeps.uses number script world seed call

-- the rows of keys are those of the world that indices are made of
abbrev pub AreKeysOf : Source → Type 0
AreKeysOf of = of.keys.now ≡ keys_of of.world.now.world

-- the same of what indices are made of
abbrev pub AreOwnOf : Sweeps → Option ℕ → Source → ℕ → Type 0
AreOwnOf sweeps one of node = AreOwn sweeps.uses one of.script.now of.world.now.world of.seed (call_in of.plan.now.nodes node)

abbrev pub AreUsesOf : Sweeps → Source → Type 0
AreUsesOf sweeps of = AreUses sweeps.uses of.script.now of.world.now.world of.seed of.plan.now.nodes

abbrev pub AreSweptTo : Sweeps → Source → ℕ → Type 0
AreSweptTo sweeps of = AreSwept sweeps of.script.now of.world.now.world of.seed of.plan.now.nodes

abbrev pub AreAllSwept : Sweeps → Source → Type 0
AreAllSwept sweeps of = AreSweptTo sweeps of (length of.plan.now.nodes)

-- the nodes keep what they have, and answers stay where they are
pub record KeepsUses (old new : Sweeps) : Type 0 where
  pub nodes : new.nodes.items ≡ old.nodes.items
  pub uses : (number : ℕ) (kept : SweptUse) → slice_get old.uses number ≡ Some kept → slice_get new.uses number ≡ Some kept

-- two calls are of one aggregate, with the same arguments
pub record AreSameCalls (call other : AggUse) : Type 0 where
  pub agg : call.agg ≡ other.agg
  pub args : call.args ≡ other.args

abbrev pub IsSameCall : Option AggUse → AggUse → Type 0
IsSameCall None call = ⊥
IsSameCall (Some other) call = AreSameCalls other call

-- the answers with this number are there, and their node calls the same
pub record IsSameAt (uses : List SweptUse) (number : ℕ) (nodes : List Node) (call : AggUse) : Type 0 where
  pub kept : SweptUse
  pub at : slice_get uses number ≡ Some kept
  pub same : IsSameCall (call_in nodes kept.node) call

-- the call of a node, of an extreme of which each right side is decided by the acting row
pub record IsSweepCall (found : SweepCall) (of : Source) : Type 0 where
  pub call : call_in of.plan.now.nodes found.node ≡ Some found.call.now
  pub at : slice_get of.script.now.aggs found.call.now.agg ≡ Some found.agg.now
  pub extreme : is_extreme found.agg.now.kind ≡ true
  pub few : few_groups found.agg.now.tests ≡ true
  pub boxed : is_boxed found.agg.now.tests ≡ true
  pub fixed : all_fixed found.agg.now.tests found.call.now.args ≡ true
  pub args : length found.call.now.args ≤ PARAMS_MAX

-- what is kept for a node is the values of its call
abbrev pub AnswersNodes : Sweeps → TScript → World → ℕ → List Node → Type 0
AnswersNodes sweeps script world seed nodes = (node : ℕ) (call : AggUse) (swept : Swept) → call_in nodes node ≡ Some call → swept_in sweeps node ≡ Some swept
    → IsSweptFor swept script world seed call
