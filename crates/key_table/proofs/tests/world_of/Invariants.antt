use Rattle.std.proofs.Common.{◌≡◌, ◌≤◌}
use Rattle.key_table.proofs.tests.world_of.Given as goal

abbrev pub invariant-loop-key : goal.invariant-loop-key
invariant-loop-key l = record {
  width : l.builder.table.width ≡ 0;
  last : l.builder.table.world.last_key ≤ 4294967295;
}
