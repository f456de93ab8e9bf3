use Rattle.std.proofs.Common.{List, subst}
use Rattle.battle_algebra.specs.declared.plan.Node.{Node}
use Rattle.index_set.specs.Sweeps.{IsSameAt}
use Rattle.index_set.proofs.Preparing.{ready_for}
use Rattle.index_set.proofs.Sweeping.{own_at, same_at}
use Rattle.index_set.proofs.sweeps.Sweeps.use_for.Goals as goal

pub returns-in-Some-clause-own : goal.returns-in-Some-clause-own
returns-in-Some-clause-own g c =
    let of = c.args.from.now.of.now in
    own_at c.args.self.now.uses c.in-Some.number of.script.now of.world.now.world of.seed of.plan.now.nodes c.args.found.node c.args.found.call.now c.requires.sweep.call
    (same_at c.args.self.now.uses c.in-Some.number of.script.now of.world.now.world of.seed of.plan.now.nodes c.args.found.call.now c.requires.uses
    (subst (λ (ns : List Node). IsSameAt c.args.self.now.uses c.in-Some.number ns c.args.found.call.now) c.nodes.ensures c.in-Some.ensures))

pub returns-in_ok-number-in-Some-use_of_node-clause-own : goal.returns-in_ok-number-in-Some-use_of_node-clause-own
returns-in_ok-number-in-Some-use_of_node-clause-own g c =
    let of = c.args.from.now.of.now in
    own_at c.sweep_use.new.self.uses c.in_ok-number-in-Some-use_of_node.number of.script.now of.world.now.world of.seed of.plan.now.nodes c.args.found.node c.args.found.call.now c.requires.sweep.call c.in_ok-number-in-Some-use_of_node.ensures.at

pub sweep_use-requires-clause-ready : goal.sweep_use-requires-clause-ready
sweep_use-requires-clause-ready g c lifetimes outlive =
    let of = c.args.from.now.of.now in
    ready_for c.args.from.now.shelf.now of.script.now of.world.now.world of.seed of.plan.now.nodes c.args.from.now.uses.now c.in-Some-use_of_node.at.now c.args.found.node c.args.found.call.now c.args.found.agg.now
    c.requires.from.uses c.in-Some-use_of_node.ensures c.requires.sweep.call c.requires.sweep.at
