-- Where all values so far are of one sort, the lanes so far hold them.
use Rattle.std.proofs.Common.{◌≡◌, ◌<◌, ℕ, pos, true, slice_index_or}
use Rattle.sgl_values.specs.declared.fault.Val.TheVariants.{N}
use Rattle.sgl_lanes.specs.Lanes.{has, lane_of, Holds}
use Rattle.sgl_lanes.specs.declared.kind.Lanes.TheVariants.{Numbers, Truths}
use Rattle.sgl_lanes.proofs.contexts.LaneContexts.slots.Given as goal

abbrev pub invariant-loop-lane : goal.invariant-loop-lane
invariant-loop-lane g l = record {
  numbers : l.numbers ≡ true → (k : ℕ) → k < l.lane → has l.mask k ≡ true
      → Holds Numbers (lane_of l.out k) (slice_index_or (g.Self.LaneContexts.context l.self k).slots l.slot (N (pos 0)));
  truths : l.truths ≡ true → (k : ℕ) → k < l.lane → has l.mask k ≡ true
      → Holds Truths (lane_of l.out k) (slice_index_or (g.Self.LaneContexts.context l.self k).slots l.slot (N (pos 0)));
}
