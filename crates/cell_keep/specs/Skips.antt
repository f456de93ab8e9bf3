-- New points that go without a row.
use Rattle.std.specs.Prelude.{◌≡◌, ◌≤◌, List, length}
use Rattle.cell_keep.specs.Rows.{rows_in}
use Rattle.cell_keep.specs.declared.matching.Matching.{Matching}
use Rattle.cell_keep.specs.declared.point.KeepPoint.{KeepPoint}

-- no more points are told than there are, and no row is told or gone by those that were passed
pub record Skips (new : List KeepPoint) (old now : Matching) : Type 0 where
  pub each : length now.taken.items ≤ length new
  pub rows : rows_in now.taken.items ≡ rows_in old.taken.items
  pub gone : now.gone.items ≡ old.gone.items
