use Rattle.std.proofs.Common.{◌≡◌}
use Rattle.board_tests.proofs.tests.worlds.far_keys.Given as goal

abbrev pub invariant-loop-case : goal.invariant-loop-case
invariant-loop-case g l = l.builder.table.width ≡ 2
