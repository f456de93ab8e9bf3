use Rattle.std.proofs.Common.{◌≡◌, ◌≤◌}
use Rattle.index_tests.proofs.worlds.world.Given as goal

abbrev pub invariant-loop-row : goal.invariant-loop-row
invariant-loop-row l = record {
  width : l.builder.table.width ≡ 6;
  last : l.builder.table.world.last_key ≤ 4294967295;
}
