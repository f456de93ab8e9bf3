-- The first cells are those of the lane.
use Rattle.std.proofs.Common.{◌≡◌, ◌<◌, ℕ, [], length, pos, slice_index_or}
use Rattle.sgl_lanes.specs.Lanes.{lane_of}
use Rattle.tick_postprocess.proofs.row_lanes.cells_of.Given as goal

abbrev pub invariant-loop-effect : goal.invariant-loop-effect
invariant-loop-effect l = record {
  full : length l.row ≡ 16;
  lists : length l.cells ≡ 16;
  same : (k : ℕ) → k < l.effect → slice_index_or l.row k (pos 0) ≡ lane_of (slice_index_or l.cells k []) l.lane;
}
