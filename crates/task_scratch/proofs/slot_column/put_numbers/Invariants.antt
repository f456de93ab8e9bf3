-- The rows of the set before the next have the numbers of the lanes, and those outside the set what they had.
use Rattle.std.proofs.Common.{◌≡◌, ◌<◌, ◌≤◌, ◌-◌, ℕ, length, true, false}
use Rattle.effect_board.proofs.LaneSets.{IsRest}
use Rattle.sgl_lanes.specs.Lanes.{has, lane_of}
use Rattle.task_scratch.proofs.slot_column.put_numbers.Given as goal

abbrev pub decreases-loop-left : goal.decreases-loop-left
decreases-loop-left l = 64 - l.next

abbrev pub invariant-loop-left : goal.invariant-loop-left
invariant-loop-left l = record {
  long : length l.into ≡ 64;
  next : l.next ≤ 64;
  rest : IsRest l.mask l.left l.next;
  inside : (k : ℕ) → k < l.next → has l.mask k ≡ true → lane_of l.into k ≡ lane_of l.numbers k;
  outside : (k : ℕ) → has l.mask k ≡ false → lane_of l.into k ≡ lane_of l.initial.into k;
}
