-- Rows have two values, and no key is above the last one.
use Rattle.std.proofs.Common.{◌≡◌, ◌≤◌}
use Rattle.engine_tests.proofs.tests.values.four.Given as goal

abbrev pub invariant-loop-number : goal.invariant-loop-number
invariant-loop-number l = record {
  width : l.builder.table.width ≡ 2;
  last : l.builder.table.world.last_key ≤ l.last;
}
