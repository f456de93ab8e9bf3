use Rattle.sgl_types.proofs.Declaring.{declared-next}
use Rattle.sgl_types.proofs.declared.Declared.of.Goals as goal

pub loop-item-preserved : goal.loop-item-preserved
loop-item-preserved c =
    declared-next c.args.items.now c.loop-item.item-index c.item-item.result c.loop-item.all c.declare.new.self c.loop-item-test.true c.item-item.is c.in_ok-declare.ensures c.loop-item.invariant
