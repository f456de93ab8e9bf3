use Rattle.std.proofs.Common.{◌≡◌}
use Rattle.board_tests.proofs.tests.worlds.full_builder.Given as goal

abbrev pub invariant-loop-row : goal.invariant-loop-row
invariant-loop-row g l = l.builder.table.width ≡ 1
