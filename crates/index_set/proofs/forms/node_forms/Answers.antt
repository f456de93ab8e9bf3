use Rattle.std.proofs.Common.{Some, sym, subst}
use Rattle.battle_algebra.specs.declared.plan.Node.{Node}
use Rattle.index_set.specs.Forms.{AreToldFor}
use Rattle.index_set.proofs.Telling.{told_call, told_effect}
use Rattle.index_set.proofs.forms.node_forms.Goals as goal

pub returns-in-Agg : goal.returns-in-Agg
returns-in-Agg c =
    subst (λ (node : Node). AreToldFor c.args.script.now (Some node) c.call_forms.result) (sym c.in-Agg.is)
    (told_call c.args.script.now _ _ c.in-Agg.call _ c.call_forms.result c.call_forms.ensures.forms c.call_forms.ensures.none)

pub returns-in-Effect : goal.returns-in-Effect
returns-in-Effect c =
    subst (λ (node : Node). AreToldFor c.args.script.now (Some node) c.effect_forms.result) (sym c.in-Effect.is)
    (told_effect c.args.script.now c.in-Effect.act _ c.effect_forms.result c.effect_forms.ensures.forms c.effect_forms.ensures.none)
