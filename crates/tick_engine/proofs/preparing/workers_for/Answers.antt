use Rattle.std.proofs.Common.{◌≡◌, ℕ, ◌+◌, [], ◌∷◌, ◌++◌, length, sym, ap, ◌∙◌, arith, rules}
use Rattle.std.proofs.lemmas.List.Elements.{All-push, All-same}
use Rattle.effect_board.specs.declared.view.View.{View}
use Rattle.effect_board.specs.Views.{newcomer, splitting}
use Rattle.effect_board.specs.Handles.{view_of}
use Rattle.task_board.specs.declared.worker.Worker.{Worker}
use Rattle.task_board.specs.Working.{IsReady, IsLater}
use Rattle.task_scratch.specs.Scratch.{IsScratchFor}
use Rattle.tick_engine.proofs.Workers.{ready_worker, workers_of}
use Rattle.tick_engine.proofs.preparing.workers_for.Goals as goal

pub loop-preserved : goal.loop-preserved
loop-preserved c =
    let inv = c.loop.invariant in
    let board = c.args.board.now in
    let fits = IsScratchFor c.args.plan.now c.args.tags.now in
    let nodes : ℕ = length c.args.plan.now.plan.nodes in
    let worker : Worker = c.rested.result in
    let new : view_of c.split-seat.result ≡ newcomer (view_of c.loop.first) = c.split-seat.ensures.new in
    let is = c.rested.ensures in
    let number : (view_of worker.seat).number ≡ (view_of c.loop.first).made = ap (λ (h : Worker). (view_of h.seat).number) is ∙ ap (λ (v : View). v.number) new in
    let made = ap (λ (v : View). v.made) inv.first in
    let many = inv.many in
    record {
      of = c.split-seat.ensures.of.0;
      first = c.split-seat.ensures.view ∙ ap splitting inv.first;
      many = search (c.in_ok-push.ensures, many, rules, arith);
      ready =
          All-same (IsReady fits nodes board) c.push.new.self.items (c.loop.workers.items ++ worker ∷ []) c.in_ok-push.ensures.items
          (All-push (IsReady fits nodes board) c.loop.workers.items worker inv.ready
          (ready_worker fits nodes board worker c.split-seat.result c.in_ok-scratch.scratch is c.split-seat.ensures.of.1 c.in_ok-scratch.ensures.fits c.in_ok-scratch.ensures.new c.in_ok-scratch.ensures.fits.reach
          (ap (λ (v : View). v.claimed) new) (ap (λ (v : View). v.gives) new) (ap (λ (v : View). v.misses) new) (ap (λ (v : View). v.seats) new)));
      later = All-same IsLater c.push.new.self.items (c.loop.workers.items ++ worker ∷ []) c.in_ok-push.ensures.items
          (All-push IsLater c.loop.workers.items worker inv.later (λ zero. omega (arith, zero, number, made)));
    }

pub returns-clause-workers : goal.returns-clause-workers
returns-clause-workers c =
    let inv = c.loop.invariant in
    let board = c.args.board.now in
    let fits = IsScratchFor c.args.plan.now c.args.tags.now in
    let nodes : ℕ = length c.args.plan.now.plan.nodes in
    let worker : Worker = c.rested-2.result in
    let is = c.rested-2.ensures in
    workers_of fits nodes board c.loop.workers.items worker c.push-2.new.self.items c.in_ok-push-2.ensures.items inv.ready
    (ready_worker fits nodes board worker c.loop.first c.in_ok-scratch-2.scratch is inv.of c.in_ok-scratch-2.ensures.fits c.in_ok-scratch-2.ensures.new c.in_ok-scratch-2.ensures.fits.reach
    (ap (λ (v : View). v.claimed) inv.first) (ap (λ (v : View). v.gives) inv.first) (ap (λ (v : View). v.misses) inv.first) (ap (λ (v : View). v.seats) inv.first))
    inv.later (ap (λ (h : Worker). (view_of h.seat).number) is ∙ ap (λ (v : View). v.number) inv.first)
    (ap (λ (h : Worker). (view_of h.seat).made) is ∙ ap (λ (v : View). v.made) inv.first ∙ ap (λ (n : ℕ). n + 1) (sym inv.many ∙ sym (omega (arith, c.loop.workers.ok))))
