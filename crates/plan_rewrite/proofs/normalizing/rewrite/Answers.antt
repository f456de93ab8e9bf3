use Rattle.std.proofs.Common.{◌≡◌, ◌∙◌, ap, sym, subst}
use Rattle.plan_rewrite.specs.Bare.{IsNumbered}
use Rattle.battle_algebra.specs.Plans.{tree_in}
use Rattle.plan_rewrite.specs.Rewritten.{Rewrites}
use Rattle.plan_rewrite.specs.Trails.{IsMerged}
use Rattle.plan_rewrite.proofs.Making.{made}
use Rattle.plan_rewrite.proofs.normalizing.rewrite.Goals as goal

pub invariant_of-made : goal.invariant_of-made
invariant_of-made c = record {
  shaped =
      (made c.args.script.now c.args.plan.nodes c.in_ok-nodes.nodes c.tidy_nodes.new.nodes c.into_list.result c.args.plan.slots c.args.plan.shaped c.requires
      (subst (λ l. IsMerged c.args.script.now l c.in_ok-nodes.nodes) c.as_slice.ensures c.in_ok-nodes.ensures) c.in_ok-tidy_nodes.ensures (subst (IsNumbered c.tidy_nodes.new.nodes) (sym c.into_list.ensures) c.in_ok-number_nodes.ensures)).shaped;
}

pub new-requires : goal.new-requires
new-requires c =
    (made c.args.script.now c.args.plan.nodes c.in_ok-nodes.nodes c.tidy_nodes.new.nodes c.into_list.result c.args.plan.slots c.args.plan.shaped c.requires
    (subst (λ l. IsMerged c.args.script.now l c.in_ok-nodes.nodes) c.as_slice.ensures c.in_ok-nodes.ensures) c.in_ok-tidy_nodes.ensures (subst (IsNumbered c.tidy_nodes.new.nodes) (sym c.into_list.ensures) c.in_ok-number_nodes.ensures)).normal

pub returns-clause-nodes : goal.returns-clause-nodes
returns-clause-nodes c =
    ap (λ p. p.nodes) c.new.ensures
    ∙ (made c.args.script.now c.args.plan.nodes c.in_ok-nodes.nodes c.tidy_nodes.new.nodes c.into_list.result c.args.plan.slots c.args.plan.shaped c.requires
    (subst (λ l. IsMerged c.args.script.now l c.in_ok-nodes.nodes) c.as_slice.ensures c.in_ok-nodes.ensures) c.in_ok-tidy_nodes.ensures (subst (IsNumbered c.tidy_nodes.new.nodes) (sym c.into_list.ensures) c.in_ok-number_nodes.ensures)).are

pub returns-clause-rewrites : goal.returns-clause-rewrites
returns-clause-rewrites c =
    let own : c.new.result.plan.nodes ≡ c.into_list.result = ap (λ p. p.nodes) c.new.ensures in
    subst (λ ns. Rewrites c.args.script.now c.args.plan.slots (tree_in c.args.plan.nodes) (tree_in ns)) (sym own)
    (made c.args.script.now c.args.plan.nodes c.in_ok-nodes.nodes c.tidy_nodes.new.nodes c.into_list.result c.args.plan.slots c.args.plan.shaped c.requires
    (subst (λ l. IsMerged c.args.script.now l c.in_ok-nodes.nodes) c.as_slice.ensures c.in_ok-nodes.ensures) c.in_ok-tidy_nodes.ensures (subst (IsNumbered c.tidy_nodes.new.nodes) (sym c.into_list.ensures) c.in_ok-number_nodes.ensures)).rewrites
