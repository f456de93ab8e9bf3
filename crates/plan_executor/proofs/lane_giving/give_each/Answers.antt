use Rattle.std.proofs.Common.{arith, refl, sym, true, false, ◌≡◌, ◌∙◌}
use Rattle.battle_algebra.specs.Meaning.{effects}
use Rattle.sgl_lanes.specs.Lanes.{has}
use Rattle.plan_executor.specs.Running.{base_of}
use Rattle.plan_executor.specs.Clauses.{aims_of}
use Rattle.plan_executor.specs.Sinking.{bounds_of, state_of}
use Rattle.plan_executor.proofs.Branching.{pushes_as, ready_as}
use Rattle.plan_executor.proofs.Parting.{row_gave, row_gave_nothing}
use Rattle.plan_executor.proofs.Rows.{leads_start, leads_more, leads_end}
use Rattle.plan_executor.proofs.lane_giving.give_each.Goals.{then-has_lane, else-has_lane}
use Rattle.plan_executor.proofs.lane_giving.give_each.Goals as goal

pub loop-row-init : goal.loop-row-init
loop-row-init c = record {
  ready = c.requires.ready;
  leads = λ slots act mask inside gives. leads_start (base_of c.args.run.now) slots (effects act) mask (bounds_of c.args.run.now.out) (state_of c.args.sink.now c.args.seat.now);
}

pub loop-row-preserved : goal.loop-row-preserved
loop-row-preserved c =
    let run = c.args.run.now in
    let row = c.loop-row.row in
    let before = c.loop-row.invariant in
    let aims = aims_of c.args.aimed c.args.targets.now in
    elim c.if-has_lane.branch [
      | then-has_lane w ↦
          record {
            ready = ready_as w.seat-is w.sink-is w.give_row.ensures.ready;
            leads = λ slots act mask inside gives.
                let goes : has aims.aimed row ≡ true = sym c.has_lane.ensures ∙ w.if-has_lane.true in
                leads_more (base_of run) slots (effects act) mask row (has mask row) c.loop-row-test.true refl (before.leads slots act mask inside gives)
                (pushes_as w.seat-is w.sink-is
                (row_gave run slots act mask c.args.writes.now aims c.args.amounts.now gives row goes (w.give_row.ensures.pushes (gives.frame row) (gives.numbers row goes))));
          }
      | else-has_lane w ↦
          record {
            ready = ready_as w.seat-is w.sink-is before.ready;
            leads = λ slots act mask inside gives.
                let stays : has aims.aimed row ≡ false = sym c.has_lane.ensures ∙ w.if-has_lane.false in
                leads_more (base_of run) slots (effects act) mask row (has mask row) c.loop-row-test.true refl (before.leads slots act mask inside gives)
                (pushes_as w.seat-is w.sink-is
                (row_gave_nothing run slots act mask c.args.writes.now aims c.args.amounts.now gives (bounds_of run.out) (state_of c.loop-row.sink c.loop-row.seat) row stays));
          }
    ]

pub returns-clause-pushes : goal.returns-clause-pushes
returns-clause-pushes c = λ slots act mask inside gives.
    leads_end (base_of c.args.run.now) slots (effects act) mask c.loop-row.row (omega (arith, c.loop-row-test.false, c.loop-row.auto.row-end)) (c.loop-row.invariant.leads slots act mask inside gives)
