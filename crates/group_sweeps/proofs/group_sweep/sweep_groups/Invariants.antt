use Rattle.std.proofs.Common.{◌≡◌, length}
use Rattle.group_sweeps.specs.Finds.{FindsAll, point_by}
use Rattle.group_sweeps.proofs.group_sweep.sweep_groups.Given as goal

abbrev pub invariant-loop-one : goal.invariant-loop-one
invariant-loop-one g l = record {
  size : length l.found ≡ length l.of.asks.now;
  all : FindsAll l.of.world.now.world (point_by l.of.sides l.of.world.now.world) l.of.groups.now.lists l.of.asks.now l.one-index l.found;
}
