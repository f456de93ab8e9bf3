-- The forms that are told for a node are those of its call, or of its effect.
use Rattle.std.proofs.Common.{◌≡◌, ℕ, Option, Some, None, refl, sym, subst, ◌∙◌}
use Rattle.std.specs.Prelude.{IfNone, IfSome}
use Rattle.std.proofs.lemmas.Option.{none-some, same_Some}
use Rattle.sgl_typed.specs.declared.script.AggUse.{AggUse}
use Rattle.sgl_typed.specs.declared.script.TScript.{TScript}
use Rattle.test_boxes.specs.declared.asked.TestForms.{TestForms}
use Rattle.battle_algebra.specs.declared.plan.EffectUse.{EffectUse}
use Rattle.battle_algebra.specs.declared.plan.EffectWay.{EffectWay}
use Rattle.battle_algebra.specs.declared.plan.Node.{Node}
use Rattle.battle_algebra.specs.declared.plan.Node.TheVariants.{Agg, Effect}
use Rattle.battle_algebra.specs.declared.plan.Way.{Way}
use Rattle.index_set.specs.Forms.{act_of_node, AreCallForms, AreEffectForms, AreNodeForms, AreToldFor, HaveCallForms, HaveEffectForms}
use Rattle.index_set.specs.Sweeps.{call_of_node}

pub some_weaker : {T : Type 0} {P Q : T → Type 0} (o : Option T) → ((x : T) → P x → Q x) → IfSome o P → IfSome o Q
some_weaker (Some x) more holds = more x holds
some_weaker None more holds = tt

pub none_weaker : {T P Q : Type 0} (o : Option T) → (Q → P) → IfNone o (¬ P) → IfNone o (¬ Q)
none_weaker (Some x) less never = tt
none_weaker None less never = λ holds. never (less holds)

module _ (script : TScript) (node : Option Node) where
  pub AreNodeForms-call : (call : AggUse) (told : Option TestForms) → call_of_node node ≡ Some call → act_of_node node ≡ None
      → IfSome told (AreCallForms script call) → IfSome told (AreNodeForms script node)
  AreNodeForms-call call told calls acts own =
      some_weaker {P = AreCallForms script call} {Q = AreNodeForms script node} told
      (λ forms are. record {
        calls = λ other is. subst (λ (one : AggUse). AreCallForms script one forms) (same_Some call other (sym calls ∙ is)) are;
        effects = λ act is. absurd (none-some act (sym acts ∙ is));
      })
      own

  pub AreNodeForms-effect : (act : EffectUse) (told : Option TestForms) → act_of_node node ≡ Some act → call_of_node node ≡ None
      → IfSome told (AreEffectForms script act) → IfSome told (AreNodeForms script node)
  AreNodeForms-effect act told acts calls own =
      some_weaker {P = AreEffectForms script act} {Q = AreNodeForms script node} told
      (λ forms are. record {
        calls = λ call is. absurd (none-some call (sym calls ∙ is));
        effects = λ other is. subst (λ (one : EffectUse). AreEffectForms script one forms) (same_Some act other (sym acts ∙ is)) are;
      })
      own

module _ (script : TScript) where
  pub told_call : (slot child : ℕ) (call : AggUse) (way : Way) (told : Option TestForms) → IfSome told (AreCallForms script call) → IfNone told (¬ HaveCallForms script call)
      → AreToldFor script (Some (Agg slot call way child)) told
  told_call slot child call way told forms none = record { forms = AreNodeForms-call script (Some (Agg slot call way child)) call told refl refl forms; none = none }

  pub told_effect : (act : EffectUse) (way : EffectWay) (told : Option TestForms) → IfSome told (AreEffectForms script act) → IfNone told (¬ HaveEffectForms script act)
      → AreToldFor script (Some (Effect act way)) told
  told_effect act way told forms none = record { forms = AreNodeForms-effect script (Some (Effect act way)) act told refl refl forms; none = none }
