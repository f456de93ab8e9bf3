use Rattle.std.proofs.Common.{vec_len}
use Rattle.std.specs.Prelude.{All}
use Rattle.board_tests.specs.Workers.{IsWorker, IsLater, IsGathering}
use Rattle.board_tests.proofs.tests.boards.gather.Given as goal

abbrev pub invariant-loop-seat : goal.invariant-loop-seat
invariant-loop-seat l = record {
  others : All (IsWorker l.board) l.seats.items;
  later : All IsLater l.seats.items;
  first : IsGathering l.board (vec_len l.seats) l.first;
}

abbrev pub decreases-loop-seat : goal.decreases-loop-seat
decreases-loop-seat l = vec_len l.seats
