use Rattle.std.proofs.Common.{◌≡◌, length}
use Rattle.board_tests.proofs.tests.words.full_batch.Given as goal

abbrev pub invariant-loop-row : goal.invariant-loop-row
invariant-loop-row g l = length l.batch.tags ≡ 2
