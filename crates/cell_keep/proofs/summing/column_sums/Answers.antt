use Rattle.std.proofs.Common.{◌+◌, arith, sym}
use Rattle.cell_keep.specs.Covers.{cell_above, is_counted_along, is_counted_in}
use Rattle.cell_keep.specs.Kept.{points_of}
use Rattle.cell_keep.proofs.Adding.{GoesOn, goes_on_at}
use Rattle.cell_keep.proofs.Counting.{column_more, column_none}
use Rattle.cell_keep.proofs.Holding.{held_few}
use Rattle.cell_keep.proofs.summing.column_sums.Goals as goal
use Rattle.cell_keep.proofs.summing.column_sums.Goals.{After-cell_sums}

pub loop-north-init : goal.loop-north-init
loop-north-init c = record { value = sym (column_none c.args.circle.now (points_of c.args.held.now) c.args.lowest.now); bounded = omega arith }

next : (c : After-cell_sums) → GoesOn (points_of c.args.held.now) (is_counted_along c.args.circle.now c.args.lowest.now (c.loop-north.north + 1)) c.loop-north.sums c.cell_sums.result
next c = let circle = c.args.circle.now in let points = points_of c.args.held.now in let lowest = c.args.lowest.now in let north = c.loop-north.north in
    goes_on_at points (held_few c.args.held.now c.requires.placed) (is_counted_along circle lowest north) (is_counted_along circle lowest (north + 1)) (is_counted_in circle) (cell_above lowest north)
    c.cell_above-cell.result c.loop-north.sums c.cell_sums.result c.loop-north.invariant c.cell_above-cell.ensures c.cell_sums.ensures.value (column_more circle points lowest north)

pub joined-sums-requires-clause-few : goal.joined-sums-requires-clause-few
joined-sums-requires-clause-few c = (next (goal.at.joined-sums-requires-clause-few c).After-cell_sums).few

pub loop-north-preserved : goal.loop-north-preserved
loop-north-preserved c = (next (goal.at.loop-north-preserved c).After-cell_sums).sums c.joined-sums.result c.joined-sums.ensures.value c.joined-sums.ensures.bounded
