use Rattle.std.proofs.Common.{rules, true, ◌≡◌, ◌+◌, ◌<◌, ◌∙◌, ap, sym, subst, refl, arith, ℕ, List, get_or, length, drop}
use Rattle.std.proofs.lemmas.List.{at_drop_all}
use Rattle.sgl_values.specs.Amounts.{is_amount, plain_amount}
use Rattle.sgl_lanes.specs.Lanes.{has, lane_of}
use Rattle.sgl_typed.specs.declared.script.TWrite.{TWrite}
use Rattle.sgl_lanes.specs.declared.values.LaneValues.{LaneValues}
use Rattle.effect_board.specs.Lanes.{lane_gives}
use Rattle.effect_board.specs.Views.{giving_all}
use Rattle.effect_board.specs.Handles.{tags_of, view_of}
use Rattle.plan_executor.specs.Clauses.{aims_of, columns}
use Rattle.plan_executor.specs.Sinking.{bounds_of, state_of, Leads}
use Rattle.plan_executor.proofs.LaneGives.{fit_in_all, gives_of_members, in_has, next_column, pushed_column, room_left}
use Rattle.plan_executor.proofs.Pushing.{Leads-end, Leads-more}
use Rattle.plan_executor.proofs.lane_giving.give_columns.Goals as goal

pub overflow_add-sink : goal.overflow_add-sink
overflow_add-sink c =
    let left = room_left c.loop-number.sink.items c.count_rows-rows.result (length c.args.writes.now) c.loop-number.number c.args.run.now.out.limit c.loop-number-test.true c.count_rows-rows.ensures.few c.loop-number.invariant.room in
    omega (arith, left.0, c.requires.limit)

pub give_lanes-requires-clause-rows : goal.give_lanes-requires-clause-rows
give_lanes-requires-clause-rows c = λ lane own.
    subst (λ (n : ℕ). get_or c.args.targets.now lane 0 < n) (sym c.requires.can.rows) (c.requires.targets lane (sym (in_has c.args.aimed lane) ∙ own))

pub loop-number-preserved : goal.loop-number-preserved
loop-number-preserved c =
    let a = c.args in
    let run = a.run.now in
    let aims = aims_of a.aimed a.targets.now in
    let i = c.loop-number.number in
    let before = c.loop-number.invariant in
    let sink = c.loop-number.sink in
    let rows = c.count_rows-rows.result in
    let write : TWrite = c.index-writes-number.result in
    let values : LaneValues = c.index-amounts-number.result in
    let left = room_left sink.items rows (length a.writes.now) i run.out.limit c.loop-number-test.true c.count_rows-rows.ensures.few before.room in
    record {
      ready = record { of = c.give_lanes.ensures.of; tags = before.ready.tags; cells = before.ready.cells };
      fresh = before.fresh;
      room = left.1;
      leads = Leads-more
          (subst (λ rest. Leads (bounds_of run.out) (state_of a.sink.now a.seat.now) (state_of sink c.loop-number.seat) rest (columns aims a.writes.now a.amounts.now))
          (next_column aims a.writes.now a.amounts.now i write values c.loop-number-test.true (omega (arith, c.loop-number-test.true, c.requires.room)) c.index-writes-number.is c.index-amounts-number.is) before.leads)
          (pushed_column (bounds_of run.out) (state_of sink c.loop-number.seat) (state_of record { batch = sink.batch; items = sink.items + rows; over = sink.over; least = sink.least } c.give_lanes.new.seat) rows aims write values
          (subst (λ (n : ℕ). write.effect < n) c.requires.can.tags (subst (λ (w : TWrite). w.effect < length run.tick.script.now.schema.effects) (sym c.index-writes-number.is) (c.requires.on_board i write c.loop-number-test.true)))
          before.fresh c.count_rows-rows.ensures.value left.0 before.fresh refl refl refl
          (subst (λ (v : LaneValues). (k : ℕ) → has aims.aimed k ≡ true → is_amount (plain_amount (lane_of v.numbers k)) ≡ true) (sym c.index-amounts-number.is)
          (fit_in_all aims.aimed _ (search rules) c.give_lanes.ensures.fit))
          (c.give_lanes.ensures.view
          ∙ ap (giving_all (view_of c.loop-number.seat))
          ((λ j. lane_gives (tags_of run.out.board.now) (sym c.index-writes-number.is j).effect aims.aimed aims.targets (sym c.index-amounts-number.is j).numbers)
          ∙ gives_of_members (tags_of run.out.board.now) write.effect aims values.numbers)));
    }

pub returns-clause-pushes : goal.returns-clause-pushes
returns-clause-pushes c =
    let a = c.args in
    let i = c.loop-number.number in
    Leads-end (subst (λ (ws : List TWrite). Leads (bounds_of a.run.now.out) (state_of a.sink.now a.seat.now) (state_of c.loop-number.sink c.loop-number.seat) (columns (aims_of a.aimed a.targets.now) ws (drop i a.amounts.now)) (columns (aims_of a.aimed a.targets.now) a.writes.now a.amounts.now))
    (at_drop_all (λ (ws : List TWrite). ws) a.writes.now i c.loop-number-test.false) c.loop-number.invariant.leads)
