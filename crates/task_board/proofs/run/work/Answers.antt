use Rattle.std.proofs.Common.{ℕ, ◌-◌, ◌<◌, List, sym, ap, ◌∙◌, subst, arith}
use Rattle.effect_board.specs.declared.view.View.{View}
use Rattle.effect_board.specs.Handles.{view_of, tasks_of}
use Rattle.task_scratch.specs.Job.{Job}
use Rattle.task_board.specs.Job.{items_of}
use Rattle.task_board.specs.Summing.{Tells}
use Rattle.task_board.specs.Working.{above}
use Rattle.task_board.proofs.Measures.{above_grows, above_le}
use Rattle.task_board.proofs.run.work.Goals as goal

pub loop-task-smaller : goal.loop-task-smaller
loop-task-smaller g c =
    let before : View = view_of c.loop-task.worker.seat in
    let task = c.in-Some.task in
    let after = c.run_claimed.ensures.tasks ∙ ap (λ (v : View). v.claimed) c.in-Some.ensures.view in
    let count : ℕ = tasks_of c.args.board.now in
    subst (λ (l : List ℕ). count - above l < count - above before.claimed) (sym after) (above_grows before.claimed task count c.in-Some.ensures.task.1 c.in-Some.ensures.task.0)

pub run_claimed-requires-clause-claimed : goal.run_claimed-requires-clause-claimed
run_claimed-requires-clause-claimed g c =
    let before : View = view_of c.loop-task.worker.seat in
    let task = c.in-Some.task in
    let now = c.in-Some.ensures.view in
    let job : Job = g.T.Tasks.job c.args.tasks.now in
    let working = c.loop-task.invariant.working in
    let runs = working.runs in
    let least = above_le before.claimed task c.in-Some.ensures.task.1 in
    record {
      work = record {
        of = c.in-Some.ensures.of;
        fresh = ap (λ (v : View). v.misses) now ∙ working.work.fresh;
        one = ap (λ (v : View). v.seats) now ∙ working.work.one;
        scratch = working.work.scratch;
        agrees = working.work.agrees;
      };
      earlier = before.claimed;
      claimed = ap (λ (v : View). v.claimed) now;
      runs = omega (arith, runs, least);
      inside = subst (λ (n : ℕ). task < n) c.requires.board.tasks c.in-Some.ensures.task.0;
      tells = subst (λ (v : View). Tells job c.loop-task.worker.summary v.gives (items_of job before.claimed)) (sym now) working.tells;
      sized = working.sized;
      reaches = working.reaches;
    }
