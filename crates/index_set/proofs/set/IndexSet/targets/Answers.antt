use Rattle.std.proofs.Common.{Some, ap, sym, ◌∙◌}
use Rattle.std.specs.Prelude.{slice_get}
use Rattle.std.specs.Option.{option_copied}
use Rattle.battle_algebra.specs.declared.plan.Plan.{Plan}
use Rattle.index_set.proofs.Nodes.{few_args}
use Rattle.index_set.proofs.set.IndexSet.targets.Goals as goal

pub act_targets-requires-clause-few : goal.act_targets-requires-clause-few
act_targets-requires-clause-few c =
    few_args c.args.of.script.now c.args.of.plan.now.plan.nodes c.args.of.plan.now.plan.slots c.args.node c.in-Some-Effect.act c.in-Some-Effect.way c.args.of.plan.now.plan.shaped c.requires.built.of
    (ap (λ (p : Plan). slice_get p.nodes c.args.node) (sym c.plan.ensures.plan) ∙ sym c.get.ensures ∙ ap option_copied c.in-Some-Effect.is ∙ ap Some c.in-Some-Effect.field-0-is)

pub act_targets-requires-clause-act : goal.act_targets-requires-clause-act
act_targets-requires-clause-act c =
    ap (λ (p : Plan). slice_get p.nodes c.args.node) (sym c.plan.ensures.plan) ∙ sym c.get.ensures ∙ ap option_copied c.in-Some-Effect.is
    ∙ ap Some c.in-Some-Effect.field-0-is
