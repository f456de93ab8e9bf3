use Rattle.index_set.proofs.Slabbing.{own_use}
use Rattle.std.specs.Prelude.{slice_get}
use Rattle.index_set.proofs.slabs.Slabs.use_at.Goals as goal

pub returns-in_ok-one-in-Some-clause-own : goal.returns-in_ok-one-in-Some-clause-own
returns-in_ok-one-in-Some-clause-own g c =
    let of = c.args.of.now in
    own_use c.in_ok-one-in-Some.one c.use_for.new.self c.args.shelf.now of.script.now
    (slice_get of.plan.now.nodes c.args.node) c.in-Some.tests.now c.in-Some.ensures.tests c.in_ok-one-in-Some.ensures.own
