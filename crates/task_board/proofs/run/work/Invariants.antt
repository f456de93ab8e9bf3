use Rattle.std.proofs.Common.{◌-◌}
use Rattle.effect_board.specs.Handles.{view_of, tasks_of}
use Rattle.task_board.specs.Working.{IsWorking, IsSame, above}
use Rattle.task_board.proofs.run.work.Given as goal

abbrev pub invariant-loop-task : goal.invariant-loop-task
invariant-loop-task g l = record {
  working : IsWorking (g.T.Tasks.job l.tasks) (g.T.Tasks.fits l.tasks) l.board l.worker;
  same : IsSame l.initial.worker l.worker;
}

abbrev pub decreases-loop-task : goal.decreases-loop-task
decreases-loop-task g l = tasks_of l.board - above (view_of l.worker.seat).claimed
