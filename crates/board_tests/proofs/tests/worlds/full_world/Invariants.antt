use Rattle.std.proofs.Common.{◌≡◌}
use Rattle.board_tests.proofs.tests.worlds.full_world.Given as goal

abbrev pub invariant-loop-key : goal.invariant-loop-key
invariant-loop-key g l = l.builder.table.width ≡ 1
