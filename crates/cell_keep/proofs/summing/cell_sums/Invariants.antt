use Rattle.std.proofs.Common.{◌≡◌, ◌<◌, length}
use Rattle.std.specs.Prelude.{All, filter}
use Rattle.cell_keep.specs.Circles.{joined, sums_of}
use Rattle.cell_keep.specs.Covers.{is_counted_in, IsBounded}
use Rattle.cell_keep.specs.Kept.{points_of}
use Rattle.cell_links.specs.Walks.{rows_left}
use Rattle.cell_keep.specs.Rows.{points_at}
use Rattle.cell_keep.proofs.summing.cell_sums.Given as goal

abbrev pub invariant-rows : goal.invariant-rows
invariant-rows l = record {
  within : All (λ row. row < length l.held.points.items) (rows_left l.walk);
  sums : joined l.sums (sums_of (filter (is_counted_in l.circle l.cell) (points_at l.held.points.items (rows_left l.walk))))
      ≡ sums_of (filter (is_counted_in l.circle l.cell) (points_of l.held));
  bounded : IsBounded l.sums;
}

abbrev pub decreases-rows : goal.decreases-rows
decreases-rows l = length (rows_left l.walk)
