use Rattle.std.proofs.Common.{◌≡◌, length}
use Rattle.std.specs.Prelude.{flat_map}
use Rattle.battle_algebra.specs.Meaning.{is_taken, is_other}
use Rattle.plan_executor.specs.Below.{PartBelow, rest_rows}
use Rattle.plan_executor.specs.Frames.{frames, members}
use Rattle.task_scratch.specs.Scratch.{slots_in}
use Rattle.plan_executor.specs.Running.{base_of}
use Rattle.plan_executor.specs.Sinking.{bounds_of, state_of, IsReady, Leads}
use Rattle.plan_executor.specs.Steps.{condition_of}
use Rattle.plan_executor.proofs.splitting.split_rows.Given as goal

abbrev pub invariant-loop-row : goal.invariant-loop-row
invariant-loop-row l = record {
  frame : length l.frame ≡ length l.initial.frame;
  ready : IsReady l.run.out.board.now l.seat l.sink.batch;
  taken : PartBelow (base_of l.run) (slots_in l.rows) l.cond is_taken l.mask l.row l.parts.taken;
  other : PartBelow (base_of l.run) (slots_in l.rows) l.cond is_other l.mask l.row l.parts.other;
  leads : Leads (bounds_of l.run.out) (state_of l.initial.sink l.initial.seat) (state_of l.sink l.seat)
      (flat_map (condition_of l.cond) (frames (base_of l.run) (slots_in l.rows) (rest_rows l.mask l.row)))
      (flat_map (condition_of l.cond) (frames (base_of l.run) (slots_in l.rows) (members l.mask)));
}
