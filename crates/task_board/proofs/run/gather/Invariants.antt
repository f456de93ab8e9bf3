use Rattle.std.proofs.Common.{vec_len}
use Rattle.std.specs.Prelude.{All}
use Rattle.task_board.specs.Working.{IsDone, IsGathering, IsLater}
use Rattle.task_board.proofs.run.gather.Given as goal

abbrev pub invariant-loop-worker : goal.invariant-loop-worker
invariant-loop-worker g l = record {
  others : All (IsDone (g.T.Tasks.job l.tasks) l.board) l.workers.items;
  later : All IsLater l.workers.items;
  first : IsGathering (g.T.Tasks.job l.tasks) l.board (vec_len l.workers) l.first;
}

abbrev pub decreases-loop-worker : goal.decreases-loop-worker
decreases-loop-worker g l = vec_len l.workers
