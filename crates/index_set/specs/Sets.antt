-- What a set is the index of, and what it answers.
use Rattle.std.specs.Prelude.{◌≡◌, ◌≤◌, ℕ, ℤ, List, length, map, slice_get, slice_index_or, Option, None, Some}
use Rattle.sgl_values.specs.World.{Row, World, row_at}
use Rattle.sgl_values.specs.declared.fault.Val.{Val}
use Rattle.key_table.specs.Keys.{keys_of}
use Rattle.sgl_typed.specs.Aggregate.{simple_value}
use Rattle.sgl_typed.specs.Value.{Context}
use Rattle.sgl_typed.specs.declared.script.AggUse.{AggUse}
use Rattle.sgl_typed.specs.declared.script.TAgg.{TAgg}
use Rattle.sgl_typed.specs.declared.script.TOn.{TOn}
use Rattle.sgl_typed.specs.declared.script.TScript.{TScript}
use Rattle.battle_algebra.specs.Meaning.{call_value, clause_of}
use Rattle.battle_algebra.specs.OfScript.{IsOf}
use Rattle.battle_algebra.specs.Plans.{tree_in}
use Rattle.battle_algebra.specs.declared.normal_plan.NormalPlan.{NormalPlan}
use Rattle.battle_algebra.specs.declared.plan.EffectUse.{EffectUse}
use Rattle.battle_algebra.specs.declared.plan.EffectWay.{EffectWay}
use Rattle.battle_algebra.specs.declared.plan.Node.{Node}
use Rattle.battle_algebra.specs.declared.plan.Node.TheVariants.{Agg, Effect}
use Rattle.battle_algebra.specs.declared.plan.Way.{Way}
use Rattle.index_set.specs.declared.ranged.RangedAt.{RangedAt}
use Rattle.index_set.specs.declared.set.IndexSet.{IndexSet}
use Rattle.index_set.specs.declared.parts.Own.{Own}
use Rattle.index_set.specs.declared.parts.Parts.{Parts}
use Rattle.index_set.specs.declared.shelf.Shelf.{Shelf}
use Rattle.index_set.specs.declared.source.Source.{Source}
use Rattle.index_set.specs.declared.targets.Targets.{Targets}
use Rattle.index_set.specs.Targets.{AreTargets, GivesNothing}
use Rattle.index_set.specs.Forms.{AreAllForms}
use Rattle.index_set.specs.Frames.{frame_of}
use Rattle.index_set.specs.Kept.{IsKept}
use Rattle.index_set.specs.Near.{IsNearest}
use Rattle.index_set.specs.Owned.{AreOwn}
use Rattle.index_set.specs.Rounds.{IsRound}
use Rattle.index_set.specs.Slabs.{AreAllUsed}
use Rattle.index_set.specs.Sweeps.{AnswersNodes}
use Rattle.sgl_values.specs.declared.limit.TheConstants.{PARAMS_MAX}

-- the seed of the draw
abbrev pub seed_of : IndexSet → ℕ
seed_of set = set.seed

-- the keys of which it tells the rows
abbrev pub keys_in : IndexSet → List ℤ
keys_in set = set.keys

-- what is kept for each aggregate of the script is its own, over these rows
abbrev pub KeepOwn : Shelf → List (Option RangedAt) → TScript → List Row → Type 0
KeepOwn shelf aggs script rows = (number : ℕ) (agg : TAgg) → slice_get script.aggs number ≡ Some agg → IsKept shelf (slice_index_or aggs number None) agg rows

-- and so is each aggregate's in a list of what is kept
abbrev pub KeepEach : {K : Type 0} → (K → TAgg → Type 0) → List (Option K) → TScript → Type 0
KeepEach is kept script = AreOwn is kept (length script.aggs) script

pub record KeepsAll (set : IndexSet) (script : TScript) (world : World) : Type 0 where
  pub shelf : KeepOwn set.shelf set.aggs.items script world.rows
  pub trees : KeepEach (IsNearest world.rows) set.trees.items script
  pub rounds : KeepEach (IsRound world) set.rounds.items script

-- so is what is kept for effects
pub record Keeps (shelf : Shelf) (own : Own) (script : TScript) (world : World) (nodes : List Node) : Type 0 where
  pub kept : KeepOwn shelf own.aggs.items script world.rows
  pub trees : KeepEach (IsNearest world.rows) own.trees.items script
  pub rounds : KeepEach (IsRound world) own.rounds.items script
  pub effects : AreAllUsed own.slabs shelf world script nodes

abbrev pub KeepsOf : Shelf → Own → Source → Type 0
KeepsOf shelf own of = Keeps shelf own of.script.now of.world.now.world of.plan.now.nodes

-- the parts of a set are those of a source
pub record AreParts (parts : Parts) (of : Source) : Type 0 where
  pub keeps : KeepsOf parts.rest.shelf parts.rest.own of
  pub swept : AnswersNodes parts.sweeps of.script.now of.world.now.world of.seed of.plan.now.nodes

-- the set was built of a plan of this script, for this world and seed
pub record IsIndexOf (set : IndexSet) (script : TScript) (plan : NormalPlan) (world : World) (seed : ℕ) : Type 0 where
  pub drawn : seed_of set ≡ seed
  pub keys : keys_in set ≡ keys_of world
  pub of : IsOf script (tree_in plan.plan.nodes)
  pub kept : KeepsAll set script world
  pub slabs : AreAllUsed set.slabs set.shelf world script plan.plan.nodes
  pub swept : AnswersNodes set.sweeps script world seed plan.plan.nodes
  pub forms : AreAllForms script plan.plan.nodes set.forms.items

-- if the node calls an aggregate, the value is that of its call in the frame
abbrev pub IsAnswerAt : NormalPlan → ℕ → Context → Val → Type 0
IsAnswerAt plan node frame value = (slot : ℕ) (call : AggUse) (way : Way) (child : ℕ)
    → slice_get plan.plan.nodes node ≡ Some (Agg slot call way child) → value ≡ call_value frame call

-- if the node calls an aggregate, these are the values of its arguments, of which there are at most sixteen, whatever the slots are
pub record AreArgsAt (plan : NormalPlan) (node : ℕ) (frame : List Val → Context) (args : List Val) : Type 0 where
  pub few : length args ≤ PARAMS_MAX
  pub are : (slots : List Val) (slot : ℕ) (call : AggUse) (way : Way) (child : ℕ)
      → slice_get plan.plan.nodes node ≡ Some (Agg slot call way child) → args ≡ map (simple_value (frame slots)) call.args

-- the context of an effect: the unit with this number, with the values of the arguments
abbrev pub acting : TScript → World → ℕ → ℕ → List Val → EffectUse → Context
acting script world seed row slots act =
    let frame = frame_of script world seed (row_at world row) slots in
    record frame { slots = map (simple_value frame) act.args }

-- the targets of a clause that may be missing, by the arguments that are the slots of the context
abbrev pub AreTargetsOf : Targets → Context → Option TOn → Type 0
AreTargetsOf targets c None = GivesNothing targets
AreTargetsOf targets c (Some clause) = AreTargets targets c clause.tests

-- if the node is an effect, they are the targets of its clause, whose arguments are evaluated in the frame
abbrev pub AreTargetsAt : NormalPlan → ℕ → Context → Targets → Type 0
AreTargetsAt plan node frame targets = (act : EffectUse) (way : EffectWay) → slice_get plan.plan.nodes node ≡ Some (Effect act way)
    → AreTargetsOf targets (record frame { slots = map (simple_value frame) act.args }) (clause_of (slice_get frame.script.actions act.action) act.clause)
