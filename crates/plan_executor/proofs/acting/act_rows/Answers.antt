use Rattle.std.proofs.Common.{arith, subst, List}
use Rattle.std.specs.Prelude.{flat_map}
use Rattle.sgl_values.specs.declared.fault.Val.{Val}
use Rattle.battle_algebra.specs.Meaning.{effects}
use Rattle.task_scratch.specs.Scratch.{slots_in}
use Rattle.plan_executor.specs.Frames.{frames, members}
use Rattle.plan_executor.specs.Running.{base_of}
use Rattle.plan_executor.specs.Sinking.{bounds_of, state_of, Pushes}
use Rattle.plan_executor.proofs.EmptySets.{no_pushes}
use Rattle.plan_executor.proofs.Rooms.{keeps_more}
use Rattle.plan_executor.proofs.acting.act_rows.Goals as goal

pub returns-then-mask-eq0-clause-pushes : goal.returns-then-mask-eq0-clause-pushes
returns-then-mask-eq0-clause-pushes c =
    no_pushes c.args.mask c.if-mask-eq0.true (base_of c.args.run.now) (slots_in c.args.room.now.rows) (effects c.args.act.now)
    (bounds_of c.args.run.now.out) (state_of c.args.sink.now c.args.seat.now)

pub give_lanes-requires-clause-room : goal.give_lanes-requires-clause-room
give_lanes-requires-clause-room c = omega (arith, c.in-Some.ensures.gift.room, c.as_slice-amounts.ensures.len)

pub returns-clause-same : goal.returns-clause-same
returns-clause-same c = keeps_more c.own_gift_of.ensures.same c.act_anywhere.ensures.same

pub returns-clause-pushes : goal.returns-clause-pushes
returns-clause-pushes c =
    let run = c.args.run.now in
    let now = state_of c.args.sink.now c.args.seat.now in
    subst (λ (rows : List (List Val)). Pushes (bounds_of run.out) now (state_of c.act_anywhere.new.sink c.act_anywhere.new.seat) (flat_map (effects c.args.act.now) (frames (base_of run) (slots_in rows) (members c.args.mask))))
    c.own_gift_of.ensures.same.rows c.act_anywhere.ensures.pushes
