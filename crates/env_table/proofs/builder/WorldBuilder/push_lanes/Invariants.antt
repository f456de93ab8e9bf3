-- The lanes so far are put.
use Rattle.std.proofs.Common.{◌≡◌, ◌-◌, ◌≤◌, length}
use Rattle.env_table.specs.Pushes.{CanPushLanes}
use Rattle.env_table.specs.Table.{with_lanes}
use Rattle.env_table.proofs.builder.WorldBuilder.push_lanes.Given as goal

abbrev pub invariant-loop-lane : goal.invariant-loop-lane
invariant-loop-lane l = record {
  upto : l.lane ≤ l.count;
  put : l.self ≡ with_lanes l.fn.self l.world.world l.first l.columns l.lanes l.lane;
  can : CanPushLanes l.self l.world l.first l.lane l.count (length l.columns);
}

abbrev pub decreases-loop-lane : goal.decreases-loop-lane
decreases-loop-lane l = l.count - l.lane
