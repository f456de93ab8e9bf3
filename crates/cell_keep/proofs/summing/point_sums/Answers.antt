use Rattle.std.proofs.Common.{◌≡◌, ◌<◌, List, ℕ, ap, arith, get_or, length, subst}
use Rattle.cell_keep.specs.Covers.{is_counted}
use Rattle.cell_keep.specs.Kept.{points_of}
use Rattle.cell_keep.proofs.Adding.{next_sums}
use Rattle.cell_keep.proofs.Holding.{held_length, nth_point, row_below}
use Rattle.cell_keep.proofs.summing.point_sums.Goals as goal

pub index-point-requires : goal.index-point-requires
index-point-requires c =
    let held = c.args.held.now in
    let i = c.loop-row.row-index in
    let order = c.as_slice-row-items.result.now in
    let below : i < length held.order.items = omega (arith, c.loop-row-test.true, c.as_slice-row-items.ensures.len) in
    omega (arith, held.points.ok, ap (λ (l : List ℕ). get_or l i 0) c.as_slice-row-items.ensures.value, row_below held c.requires i 0 below)

pub loop-row-preserved : goal.loop-row-preserved
loop-row-preserved c =
    let held = c.args.held.now in
    let points = points_of held in
    let i = c.loop-row.row-index in
    let was = c.loop-row.invariant in
    let point = c.index-point.result.now in
    let below : i < length held.order.items = omega (arith, c.loop-row-test.true, c.as_slice-row-items.ensures.len) in
    let read : point ≡ get_or held.points.items (get_or held.order.items i 0) point =
    subst (λ (l : List ℕ). point ≡ get_or held.points.items (get_or l i 0) point) c.as_slice-row-items.ensures.value c.index-point.ensures in
    let sums = next_sums (is_counted c.args.circle.now) points i point c.counts.result c.loop-row.sums c.with-sums.result (omega (arith, below, held_length held))
    (nth_point held c.requires i 0 point below read) c.counts.ensures was.sums c.with-sums.ensures.value in
    record {
      sums = sums.0;
      few = omega (arith, was.few, sums.1);
      bounded = c.with-sums.ensures.bounded;
    }
