use Rattle.std.proofs.Common.{List, ap, refl, subst, ◌∙◌}
use Rattle.battle_algebra.specs.declared.plan.Node.{Node}
use Rattle.battle_algebra.specs.declared.plan.Plan.{Plan}
use Rattle.index_set.specs.Forms.{AreAllForms}
use Rattle.index_set.specs.Slabs.{AreAllUsed}
use Rattle.index_set.specs.Sweeps.{AnswersNodes}
use Rattle.index_set.proofs.set.IndexSet.build.Goals as goal

pub returns : goal.returns
returns g c =
    let parts = c.in_ok-parts.ensures in
    let rest = c.in_ok-parts.parts.rest in
    record {
      drawn = refl;
      keys = c.in_ok-keys.ensures;
      of = c.requires;
      kept = record { shelf = parts.keeps.kept; trees = parts.keeps.trees; rounds = parts.keeps.rounds };
      slabs = subst (λ (p : Plan). AreAllUsed rest.own.slabs rest.shelf c.args.world.now.world c.args.script.now p.nodes)
          c.plan.ensures.plan parts.keeps.effects;
      swept = subst (λ (p : Plan). AnswersNodes c.in_ok-parts.parts.sweeps c.args.script.now c.args.world.now.world c.args.seed p.nodes) c.plan.ensures.plan parts.swept;
      forms = subst (λ (nodes : List Node). AreAllForms c.args.script.now nodes c.in_ok-forms.forms.items) (c.as_slice.ensures ∙ ap (λ (p : Plan). p.nodes) c.plan-2.ensures.plan) c.in_ok-forms.ensures;
    }
