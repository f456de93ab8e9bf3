-- The columns so far are read.
use Rattle.std.proofs.Common.{◌≡◌, ◌<◌, ℕ, [], length, slice_index_or}
use Rattle.sgl_lanes.specs.Columns.{IsColumn}
use Rattle.sgl_lanes.proofs.rows.read_columns.Given as goal

abbrev pub invariant-loop-attr : goal.invariant-loop-attr
invariant-loop-attr l = record {
  long : length l.columns ≡ length l.initial.columns;
  read : (k : ℕ) → k < l.attr → IsColumn l.world.world l.first k (slice_index_or l.columns k []);
}
