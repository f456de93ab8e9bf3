use Rattle.plan_executor.specs.Clauses.{aims_of}
use Rattle.plan_executor.specs.Sinking.{bounds_of, state_of}
use Rattle.plan_executor.proofs.LaneGives.{pushed_rows}
use Rattle.plan_executor.proofs.lane_giving.give_lanes.Goals as goal

pub returns-then-has_room-clause-pushes : goal.returns-then-has_room-clause-pushes
returns-then-has_room-clause-pushes c = λ slots act mask inside gives.
    let a = c.args in
    pushed_rows a.run.now slots act mask a.writes.now (aims_of a.aimed a.targets.now) a.amounts.now (bounds_of a.run.now.out) (state_of a.sink.now a.seat.now) (state_of c.give_columns.new.sink c.give_columns.new.seat) gives
    c.give_columns.ensures.pushes
