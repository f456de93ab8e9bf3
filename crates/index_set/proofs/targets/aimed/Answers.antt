use Rattle.sgl_evaluate.proofs.RightSides.{rights_fault, rights_numbers}
use Rattle.std.proofs.Common.{sym}
use Rattle.index_set.specs.Frames.{clause_context_of}
use Rattle.index_set.proofs.targets.aimed.Goals as goal

pub returns-in-Err : goal.returns-in-Err
returns-in-Err c =
    let ctx = clause_context_of c.args.actor.tick.script.now c.args.actor.tick.world.now.world c.args.actor.tick.seed c.args.actor.unit c.args.actor.args c.args.actor.count in
    rights_fault ctx c.args.tests.now c.in-Err.fault (sym c.in-Err.ensures.fault)

pub returns-in-Ok : goal.returns-in-Ok
returns-in-Ok c =
    let ctx = clause_context_of c.args.actor.tick.script.now c.args.actor.tick.world.now.world c.args.actor.tick.seed c.args.actor.unit c.args.actor.args c.args.actor.count in
    (rights_numbers ctx c.args.tests.now (sym c.in-Ok.ensures.whole), c.plain_walk-walk.ensures.rest)
