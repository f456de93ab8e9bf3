use Rattle.std.proofs.Common.{refl, subst}
use Rattle.effect_board.specs.Handles.{rows_of, tags_of, view_of}
use Rattle.plan_executor.specs.Giving.{IsGiven}
use Rattle.plan_executor.specs.Sinking.{bounds_of, state_of}
use Rattle.plan_executor.proofs.Ending.{ended_within}
use Rattle.plan_executor.proofs.task.finish.Goals as goal

pub returns-else-sink-clause-ended : goal.returns-else-sink-clause-ended
returns-else-sink-clause-ended c =
    let board = c.args.out.now.board.now in
    ended_within (bounds_of c.args.out.now) (state_of c.args.sink.now c.args.seat.now)
    (state_of record { batch = c.give_rest.new.batch; items = c.args.sink.now.items; over = c.args.sink.now.over; least = c.args.sink.now.least } c.give_rest.new.seat)
    c.if-sink.false refl refl refl (λ start items given. subst (λ cells. IsGiven (rows_of board) (tags_of board) start (view_of c.give_rest.new.seat) cells items) c.give_rest.ensures.empty (c.give_rest.ensures.given start items given))
