-- A sum for each number of points so far; each point changes it by at most 10^12.
use Rattle.std.proofs.Common.{◌≡◌, ℕ, ℤ, ◌+◌, ◌*◌, ◌≤◌, pos, neg_ℤ, ◌≤ℤ◌, length, get_or, take}
use Rattle.range_aggregate.specs.Boxes.{weight_of}
use Rattle.range_aggregate.proofs.level.running_sums.Given as goal

abbrev pub invariant-loop-point : goal.invariant-loop-point
invariant-loop-point l = record {
  long : length l.sums.items ≡ l.point-index + 1;
  each : (k : ℕ) (d : ℤ) → k ≤ l.point-index → get_or l.sums.items k d ≡ weight_of (take k l.points);
  last : l.sum ≡ weight_of (take l.point-index l.points);
  low : neg_ℤ (pos (1000000000000 * l.point-index)) ≤ℤ l.sum;
  high : l.sum ≤ℤ pos (1000000000000 * l.point-index);
}
