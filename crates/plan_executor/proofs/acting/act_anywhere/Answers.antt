use Rattle.std.proofs.Common.{arith, sym, subst, true, false, List, ◌≡◌, ◌∙◌}
use Rattle.sgl_values.specs.declared.fault.Val.{Val}
use Rattle.battle_algebra.specs.Meaning.{effects}
use Rattle.task_scratch.specs.Scratch.{slots_in}
use Rattle.plan_executor.specs.Frames.{with_slots}
use Rattle.plan_executor.specs.Rooms.{HasBuffers, KeepsRows}
use Rattle.plan_executor.specs.Running.{base_of}
use Rattle.plan_executor.specs.Sinking.{bounds_of, state_of, Pushes}
use Rattle.plan_executor.proofs.Pushing.{Pushes_nothing}
use Rattle.plan_executor.proofs.Rooms.{keeps_more}
use Rattle.plan_executor.proofs.Rows.{leads_start, leads_more, leads_end}
use Rattle.plan_executor.proofs.acting.act_anywhere.Goals.{then-has_lane, else-has_lane}
use Rattle.plan_executor.proofs.Branching.{pushes_as, ready_as}
use Rattle.plan_executor.proofs.acting.act_anywhere.Goals as goal

pub give_lanes-requires-clause-room : goal.give_lanes-requires-clause-room
give_lanes-requires-clause-room c = omega (arith, c.in-Some.ensures.gift.room, c.as_slice-amounts.ensures.len)

pub loop-row-init : goal.loop-row-init
loop-row-init c = record {
  buffers = c.in_default.ensures.buffers;
  same = c.in_default.ensures.same;
  ready = c.requires.ready;
  leads = leads_start (base_of c.args.run.now) (slots_in c.args.room.now.rows) (effects c.args.act.now) c.args.mask (bounds_of c.args.run.now.out) (state_of c.args.sink.now c.args.seat.now);
}

pub loop-row-preserved : goal.loop-row-preserved
loop-row-preserved c =
    let run = c.args.run.now in
    let row = c.loop-row.row in
    let before = c.loop-row.invariant in
    let bounds = bounds_of run.out in
    let now = state_of c.loop-row.sink c.loop-row.seat in
    let more = leads_more (base_of run) (slots_in c.args.room.now.rows) (effects c.args.act.now) c.args.mask row in
    elim c.if-has_lane.branch [
      | then-has_lane w ↦
          record {
            buffers = subst HasBuffers (sym w.room-is) w.act_row.ensures.buffers;
            same = subst (KeepsRows c.args.room.now) (sym w.room-is) (keeps_more before.same w.act_row.ensures.same);
            ready = ready_as w.seat-is w.sink-is w.act_row.ensures.ready;
            leads = more true c.loop-row-test.true (sym c.has_lane.ensures ∙ w.if-has_lane.true) before.leads
                (pushes_as w.seat-is w.sink-is
                (subst (λ (rows : List (List Val)). Pushes bounds now (state_of w.act_row.new.sink w.act_row.new.seat) (effects c.args.act.now (with_slots (base_of run) (slots_in rows) row))) before.same.rows
                w.act_row.ensures.pushes));
          }
      | else-has_lane w ↦
          record {
            buffers = subst HasBuffers (sym w.room-is) before.buffers;
            same = subst (KeepsRows c.args.room.now) (sym w.room-is) before.same;
            ready = ready_as w.seat-is w.sink-is before.ready;
            leads = more false c.loop-row-test.true (sym c.has_lane.ensures ∙ w.if-has_lane.false) before.leads
                (pushes_as w.seat-is w.sink-is (Pushes_nothing bounds now));
          }
    ]

pub returns-clause-pushes : goal.returns-clause-pushes
returns-clause-pushes c =
    let last : c.loop-row.row ≡ 64 = omega (arith, c.loop-row-test.false, c.loop-row.auto.row-end) in
    leads_end (base_of c.args.run.now) (slots_in c.args.room.now.rows) (effects c.args.act.now) c.args.mask c.loop-row.row last c.loop-row.invariant.leads
