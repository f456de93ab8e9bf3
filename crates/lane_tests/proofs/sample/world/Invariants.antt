-- Rows have two values, and keys rise by three.
use Rattle.std.proofs.Common.{◌≡◌, ◌+◌, ◌*◌, ◌≤◌}
use Rattle.lane_tests.proofs.sample.world.Given as goal

abbrev pub invariant-loop-lane : goal.invariant-loop-lane
invariant-loop-lane l = record {
  width : l.builder.table.width ≡ 2;
  last : l.builder.table.world.last_key ≤ 3 * l.lane;
}
