use Rattle.std.proofs.Common.{◌≡◌, [], length}
use Rattle.effect_board.specs.Handles.{view_of}
use Rattle.board_tests.specs.Workers.{IsWorker, IsSame}
use Rattle.board_tests.proofs.tests.boards.run_task.Given as goal

abbrev pub invariant-loop-attr : goal.invariant-loop-attr
invariant-loop-attr l = record {
  worker : IsWorker l.board l.seat;
  same : IsSame l.initial.seat l.seat;
  tags : length l.batch.tags ≡ 4;
  empty : l.batch.cells ≡ [];
  misses : (view_of l.seat).misses ≡ (view_of l.initial.seat).misses;
}
