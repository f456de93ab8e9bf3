use Rattle.std.proofs.Common.{◌≡◌, ℕ, ◌+◌, List, ◌++◌, Some, length, sym, ap, ◌∙◌, subst, arith}
use Rattle.std.proofs.lemmas.List.Elements.{All-pop}
use Rattle.std.proofs.lemmas.List.Concat.{flat_map-append}
use Rattle.effect_board.specs.declared.view.View.{View}
use Rattle.effect_board.specs.Views.{joining}
use Rattle.effect_board.specs.Handles.{view_of}
use Rattle.task_board.specs.declared.summary.Summary.{Summary}
use Rattle.task_scratch.specs.Job.{Job}
use Rattle.task_board.specs.Job.{items_of}
use Rattle.task_board.specs.Summing.{Reaches, Tells, both_of}
use Rattle.task_board.specs.Working.{IsDone, IsLater}
use Rattle.task_board.proofs.Joining.{tells_both}
use Rattle.task_board.proofs.Running.{reaches_both}
use Rattle.task_board.proofs.run.gather.Goals as goal

pub loop-worker-preserved : goal.loop-worker-preserved
loop-worker-preserved g c =
    let job : Job = g.T.Tasks.job c.args.tasks.now in
    let board = c.args.board.now in
    let worker = c.in-Some.worker in
    let old = c.loop-worker.invariant in
    let popped = All-pop (IsDone job board) c.loop-worker.workers.items c.pop.new.self.items (Some worker) c.in-Some.ensures.items old.others in
    let done : IsDone job board worker = popped.1 in
    let into : View = view_of c.loop-worker.first.seat in
    let from : View = view_of worker.seat in
    let now : view_of c.join.new.into ≡ joining into from = c.join.ensures.view in
    let len = c.in-Some.ensures.len in
    let all = old.first.all in
    let one = done.one in
    let missed = done.missed in
    let seats : (view_of c.join.new.into).seats ≡ into.seats + from.seats = ap (λ (v : View). v.seats) now in
    let made : (view_of c.join.new.into).made ≡ into.made = ap (λ (v : View). v.made) now in
    let misses : (view_of c.join.new.into).misses ≡ into.misses + from.misses = ap (λ (v : View). v.misses) now in
    let told : Tells job (both_of job.limit c.loop-worker.first.summary worker.summary) (into.gives ++ from.gives) (items_of job into.claimed ++ items_of job from.claimed)
    = tells_both job c.loop-worker.first.summary worker.summary into.gives from.gives (items_of job into.claimed) (items_of job from.claimed) old.first.holds.tells done.holds.tells in
    let is : c.both-first.result ≡ both_of job.limit c.loop-worker.first.summary worker.summary
    = c.both-first.ensures ∙ ap (λ (n : ℕ). both_of n c.loop-worker.first.summary worker.summary) (sym c.requires.limit.0) in
    let both : Tells job c.both-first.result (into.gives ++ from.gives) (items_of job (into.claimed ++ from.claimed))
    = subst (Tells job c.both-first.result (into.gives ++ from.gives)) (sym (flat_map-append job.items into.claimed from.claimed))
    (subst (λ (s : Summary). Tells job s (into.gives ++ from.gives) (items_of job into.claimed ++ items_of job from.claimed)) (sym is) told) in
    record {
      others = popped.0;
      later = (All-pop IsLater c.loop-worker.workers.items c.pop.new.self.items (Some worker) c.in-Some.ensures.items old.later).0;
      first = record {
        holds = record {
          of = c.join.ensures.of;
          tells = subst (λ (v : View). Tells job c.both-first.result v.gives (items_of job v.claimed)) (sym now) both;
          sized = c.add_counts.ensures.sized ∙ old.first.holds.sized;
          reaches = subst (λ (p : Summary × List ℕ). Reaches job p.0 c.add_counts.new.counts.items p.1) (λ i. (sym is i, sym (ap (λ (v : View). v.claimed) now) i))
              (reaches_both job c.loop-worker.first.summary worker.summary c.loop-worker.first.scratch.room.reach.items c.as_slice.result.now c.add_counts.new.counts.items into.claimed from.claimed
              (old.first.holds.sized ∙ sym done.holds.sized ∙ ap length (sym c.as_slice.ensures.value)) c.add_counts.ensures.sized c.add_counts.ensures.added old.first.holds.reaches
              (subst (λ (l : List ℕ). Reaches job worker.summary l from.claimed) (sym c.as_slice.ensures.value) done.holds.reaches));
        };
        first = ap (λ (v : View). v.number) now ∙ old.first.first;
        all = omega (arith, seats, made, all, one, len);
        missed = omega (arith, misses, missed);
      };
    }
