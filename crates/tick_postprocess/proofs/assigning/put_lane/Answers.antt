use Rattle.std.proofs.Common.{arith}
use Rattle.tick_postprocess.proofs.CellSteps.{cells_are}
use Rattle.tick_postprocess.proofs.LaneValues.{same_values}
use Rattle.tick_postprocess.proofs.assigning.put_lane.Goals as goal

pub returns-clause-here : goal.returns-clause-here
returns-clause-here c =
    let inv = c.loop-attr.invariant in
    cells_are c.loop-attr.columns c.args.lane c.args.row.now (omega (arith, inv.full, c.requires.narrow)) (λ k lt. inv.here k (omega (arith, lt, c.loop-attr-test.false)))

pub returns-clause-other : goal.returns-clause-other
returns-clause-other c k apart =
    let inv = c.loop-attr.invariant in
    same_values k c.loop-attr.columns c.args.columns.now (omega (arith, inv.full, c.told-columns)) (λ a. inv.other a k apart)
