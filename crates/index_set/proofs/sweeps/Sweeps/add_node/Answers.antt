use Rattle.std.proofs.Common.{ℕ, None, refl, subst}
use Rattle.std.proofs.lemmas.Option.{none-some}
use Rattle.index_set.specs.Sweeps.{AreOwnOf}
use Rattle.index_set.proofs.Sweeping.{node_more}
use Rattle.index_set.proofs.sweeps.Sweeps.add_node.Goals as goal

pub returns-in_ok-push-in-None : goal.returns-in_ok-push-in-None
returns-in_ok-push-in-None g c =
    let of = c.args.from.now.of.now in
    let old = c.args.self.now in
    node_more old old (record { uses = old.uses; nodes = c.push.new.self }) of.script.now of.world.now.world of.seed of.plan.now.nodes
    c.args.node None (record { nodes = refl; uses = λ number kept is. is }) c.requires.swept.uses refl c.in_ok-push-in-None.ensures.items c.requires.swept
    (λ number call none is. absurd (none-some number none))

pub returns-in_ok-push-in-Some : goal.returns-in_ok-push-in-Some
returns-in_ok-push-in-Some g c =
    let of = c.args.from.now.of.now in
    node_more c.args.self.now c.use_for.new.self (record { uses = c.use_for.new.self.uses; nodes = c.push-in-Some.new.self }) of.script.now of.world.now.world of.seed of.plan.now.nodes
    c.args.node c.in_ok-one-in-Some.one c.in_ok-one-in-Some.ensures.keeps c.in_ok-one-in-Some.ensures.uses refl c.in_ok-push-in-Some.ensures.items c.requires.swept
    (subst (λ (node : ℕ). AreOwnOf c.use_for.new.self c.in_ok-one-in-Some.one of node) c.in-Some.ensures.node c.in_ok-one-in-Some.ensures.own)
