use Rattle.std.proofs.Common.{refl}
use Rattle.index_set.proofs.Slabbing.{used_more}
use Rattle.index_set.proofs.slabs.Slabs.add_node.Goals as goal

pub returns : goal.returns
returns g c =
    let of = c.args.of.now in
    used_more c.args.self.now c.use_at.new.self
    (record { sorts = c.use_at.new.self.sorts; nodes = c.push.new.self }) c.args.shelf.now of.world.now.world of.script.now of.plan.now.nodes
    c.args.node c.in_ok-one.one c.in_ok-one.ensures.keeps c.in_ok-one.ensures.slabs refl c.in_ok-push.ensures.items c.requires.used c.in_ok-one.ensures.own
