-- The forms of the right sides that a node asks with.
use Rattle.std.specs.Prelude.{◌≡◌, ℕ, List, take, slice_get, slice_index_or, IfNone, IfSome, Option, None, Some}
use Rattle.sgl_typed.specs.declared.script.AggUse.{AggUse}
use Rattle.sgl_typed.specs.declared.script.TAgg.{TAgg}
use Rattle.sgl_typed.specs.declared.script.TOn.{TOn}
use Rattle.sgl_typed.specs.declared.script.TScript.{TScript}
use Rattle.sgl_evaluate.specs.Forms.{HaveForms}
use Rattle.test_boxes.specs.Forms.{AreTestForms}
use Rattle.test_boxes.specs.declared.asked.TestForms.{TestForms}
use Rattle.battle_algebra.specs.Meaning.{clause_of}
use Rattle.battle_algebra.specs.declared.normal_plan.NormalPlan.{NormalPlan}
use Rattle.battle_algebra.specs.declared.plan.EffectUse.{EffectUse}
use Rattle.battle_algebra.specs.declared.plan.Node.{Node}
use Rattle.battle_algebra.specs.declared.plan.Node.TheVariants.{Agg, Effect}
use Rattle.index_set.specs.Sweeps.{call_of_node}
use Rattle.sgl_values.specs.declared.limit.TheConstants.{PARAMS_MAX}

-- they are those of the aggregate that is called, for the arguments of the call, of which no aggregate reads more than sixteen
abbrev pub AreCallForms : TScript → AggUse → TestForms → Type 0
AreCallForms script call forms = (agg : TAgg) → slice_get script.aggs call.agg ≡ Some agg → AreTestForms forms (take PARAMS_MAX call.args) agg.tests

-- they are those of the clause of an effect, for its arguments
abbrev pub AreEffectForms : TScript → EffectUse → TestForms → Type 0
AreEffectForms script act forms = (clause : TOn) → clause_of (slice_get script.actions act.action) act.clause ≡ Some clause → AreTestForms forms act.args clause.tests

-- the effect of a node
abbrev pub act_of_node : Option Node → Option EffectUse
act_of_node (Some (Effect act way)) = Some act
act_of_node other = None

-- they are those of the node, whether it calls an aggregate or is an effect
pub record AreNodeForms (script : TScript) (node : Option Node) (forms : TestForms) : Type 0 where
  pub calls : (call : AggUse) → call_of_node node ≡ Some call → AreCallForms script call forms
  pub effects : (act : EffectUse) → act_of_node node ≡ Some act → AreEffectForms script act forms

abbrev pub AreFormsAt : TScript → NormalPlan → ℕ → TestForms → Type 0
AreFormsAt script plan node = AreNodeForms script (slice_get plan.plan.nodes node)

-- the right sides of the aggregate that is called have forms
pub record HaveCallForms (script : TScript) (call : AggUse) : Type 0 where
  pub agg : TAgg
  pub at : slice_get script.aggs call.agg ≡ Some agg
  pub have : HaveForms (take PARAMS_MAX call.args) agg.tests

-- those of the clause of an effect have
pub record HaveEffectForms (script : TScript) (act : EffectUse) : Type 0 where
  pub clause : TOn
  pub at : clause_of (slice_get script.actions act.action) act.clause ≡ Some clause
  pub have : HaveForms act.args clause.tests

-- the node calls an aggregate or is an effect, and its right sides have forms
abbrev pub HaveNodeForms : TScript → Option Node → Type 0
HaveNodeForms script (Some (Agg slot call way child)) = HaveCallForms script call
HaveNodeForms script (Some (Effect act way)) = HaveEffectForms script act
HaveNodeForms script other = ⊥

abbrev pub HaveFormsAt : TScript → NormalPlan → ℕ → Type 0
HaveFormsAt script plan node = HaveNodeForms script (slice_get plan.plan.nodes node)

-- they are told for a node wherever its right sides have forms
pub record AreToldFor (script : TScript) (node : Option Node) (told : Option TestForms) : Type 0 where
  pub forms : IfSome told (AreNodeForms script node)
  pub none : IfNone told (¬ HaveNodeForms script node)

-- in this list, for each node
abbrev pub AreAllForms : TScript → List Node → List (Option TestForms) → Type 0
AreAllForms script nodes list = (node : ℕ) → AreToldFor script (slice_get nodes node) (slice_index_or list node None)
