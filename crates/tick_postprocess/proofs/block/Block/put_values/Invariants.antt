-- The first values are those of the lane.
use Rattle.std.proofs.Common.{◌≡◌, ◌<◌, ℕ, [], pos, length, slice_index_or}
use Rattle.sgl_lanes.specs.Lanes.{lane_of}
use Rattle.tick_postprocess.proofs.block.Block.put_values.Given as goal

abbrev pub invariant-loop-attr : goal.invariant-loop-attr
invariant-loop-attr l = record {
  full : length l.row ≡ length l.fn.row;
  lists : length l.self.changed ≡ 32;
  put : (k : ℕ) → k < l.attr → slice_index_or l.row k (pos 0) ≡ lane_of (slice_index_or l.self.changed k []) l.lane;
}
