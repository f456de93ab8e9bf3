use Rattle.std.proofs.Common.{◌≡◌, ◌≤◌, take}
use Rattle.std.specs.Prelude.{filter}
use Rattle.cell_keep.specs.Circles.{sums_of}
use Rattle.cell_keep.specs.Covers.{is_counted, IsBounded}
use Rattle.cell_keep.specs.Kept.{points_of}
use Rattle.cell_keep.proofs.summing.point_sums.Given as goal

abbrev pub invariant-loop-row : goal.invariant-loop-row
invariant-loop-row l = record {
  sums : l.sums ≡ sums_of (filter (is_counted l.circle) (take l.row-index (points_of l.held)));
  few : l.sums.count ≤ l.row-index;
  bounded : IsBounded l.sums;
}
