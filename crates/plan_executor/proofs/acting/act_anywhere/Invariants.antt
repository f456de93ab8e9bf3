use Rattle.std.specs.Prelude.{flat_map}
use Rattle.battle_algebra.specs.Meaning.{effects}
use Rattle.plan_executor.specs.Below.{rest_rows}
use Rattle.plan_executor.specs.Frames.{frames, members}
use Rattle.task_scratch.specs.Scratch.{slots_in}
use Rattle.plan_executor.specs.Rooms.{HasBuffers, KeepsRows}
use Rattle.plan_executor.specs.Running.{base_of}
use Rattle.plan_executor.specs.Sinking.{bounds_of, state_of, IsReady, Leads}
use Rattle.plan_executor.proofs.acting.act_anywhere.Given as goal

abbrev pub invariant-loop-row : goal.invariant-loop-row
invariant-loop-row l = record {
  buffers : HasBuffers l.room;
  same : KeepsRows l.fn.room l.room;
  ready : IsReady l.run.out.board.now l.seat l.sink.batch;
  leads : Leads (bounds_of l.run.out) (state_of l.initial.sink l.initial.seat) (state_of l.sink l.seat)
      (flat_map (effects l.act) (frames (base_of l.run) (slots_in l.fn.room.rows) (rest_rows l.mask l.row)))
      (flat_map (effects l.act) (frames (base_of l.run) (slots_in l.fn.room.rows) (members l.mask)));
}
