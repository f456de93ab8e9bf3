use Rattle.std.proofs.Common.{◌≡◌, ◌+◌, vec_len}
use Rattle.std.specs.Prelude.{All}
use Rattle.effect_board.specs.Handles.{view_of, tasks_of, tags_of, IsSeatOf}
use Rattle.effect_board.specs.Views.{first_with}
use Rattle.board_tests.specs.Workers.{IsWorker, IsLater}
use Rattle.board_tests.proofs.tests.boards.seats_for.Given as goal

abbrev pub invariant-loop : goal.invariant-loop
invariant-loop l = record {
  of : IsSeatOf l.board l.first;
  first : view_of l.first ≡ first_with (tasks_of l.board) (tags_of l.board) (l.counter + 1);
  many : vec_len l.seats ≡ l.counter;
  workers : All (IsWorker l.board) l.seats.items;
  later : All IsLater l.seats.items;
}
