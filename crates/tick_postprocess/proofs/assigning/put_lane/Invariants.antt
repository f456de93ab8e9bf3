-- The first columns have the values of the row.
use Rattle.std.proofs.Common.{◌≡◌, ◌≢◌, ◌<◌, ℕ, [], pos, length, slice_index_or}
use Rattle.sgl_lanes.specs.Lanes.{lane_of}
use Rattle.tick_postprocess.proofs.assigning.put_lane.Given as goal

abbrev pub invariant-loop-attr : goal.invariant-loop-attr
invariant-loop-attr l = record {
  full : length l.columns ≡ 32;
  here : (a : ℕ) → a < l.attr → lane_of (slice_index_or l.columns a []) l.lane ≡ slice_index_or l.row a (pos 0);
  other : (a k : ℕ) → k ≢ l.lane → lane_of (slice_index_or l.columns a []) k ≡ lane_of (slice_index_or l.fn.columns a []) k;
}
