use Rattle.std.proofs.Common.{sym, ◌∙◌}
use Rattle.task_scratch.specs.Job.{Job}
use Rattle.task_board.specs.Summing.{both_of}
use Rattle.task_board.proofs.Running.{over_works, ran_works}
use Rattle.task_board.proofs.run.run_claimed.Goals as goal

pub returns-in-Over-clause-working : goal.returns-in-Over-clause-working
returns-in-Over-clause-working g c =
    over_works (g.T.Tasks.job c.args.tasks.now) (g.T.Tasks.fits c.args.tasks.now) c.args.board.now c.args.task c.args.worker.now c.requires.claimed c.in-Over.is

pub returns-in-Counted-clause-working : goal.returns-in-Counted-clause-working
returns-in-Counted-clause-working g c =
    let job : Job = g.T.Tasks.job c.args.tasks.now in
    let old = c.args.worker.now in
    ran_works job (g.T.Tasks.fits c.args.tasks.now) c.args.board.now c.args.task old c.run_task-done.new.worker.scratch c.run_task-done.new.worker.seat c.both-worker.result c.run_task-done.result
    c.in-Counted.items c.in-Counted.least c.requires.claimed c.in-Counted.is c.run_task-done.ensures.of c.run_task-done.ensures.scratch c.run_task-done.ensures.ran
    (c.both-worker.ensures ∙ (λ i. both_of (sym c.requires.limit.0 i) old.summary (c.told_of-told.ensures i)))
