use Rattle.std.proofs.Common.{◌≡◌, [], length}
use Rattle.board_tests.specs.Workers.{IsWorker, IsSame}
use Rattle.board_tests.proofs.tests.boards.work.Given as goal

abbrev pub invariant-loop : goal.invariant-loop
invariant-loop g l = record {
  worker : IsWorker l.board l.seat;
  same : IsSame l.initial.seat l.seat;
  tags : length l.batch.tags ≡ 4;
  empty : l.batch.cells ≡ [];
}
