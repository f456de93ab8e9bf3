use Rattle.std.proofs.Common.{◌≡◌}
use Rattle.board_tests.proofs.tests.stands.publish_all.Given as goal

abbrev pub invariant-loop-tick : goal.invariant-loop-tick
invariant-loop-tick g l = l.publisher ≡ l.tick
