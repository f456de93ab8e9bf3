use Rattle.std.proofs.Common.{◌≡◌, ℕ, List, [], length}
use Rattle.sgl_values.specs.declared.item.Item.{Item}
use Rattle.plan_executor.specs.Counting.{Counted}
use Rattle.plan_executor.specs.Frames.{Running}
use Rattle.plan_executor.specs.Looping.{Looping}
use Rattle.task_scratch.specs.Scratch.{slots_in}
use Rattle.plan_executor.specs.Rooms.{HasBuffers}
use Rattle.plan_executor.specs.Running.{base_of, AreInside, KeepWidth}
use Rattle.plan_executor.specs.Sinking.{bounds_of, state_of, IsReady}
use Rattle.plan_executor.proofs.step.run_nodes.Given as goal

abbrev pub invariant-loop-node : goal.invariant-loop-node
invariant-loop-node l = record {
  inside : AreInside l.run l.room.masks.items;
  sized : length l.room.masks.items ≡ length l.run.nodes.now;
  buffers : HasBuffers l.room;
  long : length l.room.reach.items ≡ length l.initial.room.reach.items;
  reach : (whole : List Item) (counts : List ℕ) → Running (base_of l.run) l.run.nodes.now whole counts 0 l.initial.room.masks.items (slots_in l.initial.room.rows) []
      → Counted counts l.node l.initial.room.reach.items l.room.reach.items;
  wide : KeepWidth l.initial.room.rows l.room.rows;
  ready : IsReady l.run.out.board.now l.seat l.sink.batch;
  runs : (whole : List Item) (counts : List ℕ) → Running (base_of l.run) l.run.nodes.now whole counts 0 l.initial.room.masks.items (slots_in l.initial.room.rows) []
      → Looping (base_of l.run) l.run.nodes.now whole counts l.node l.room.masks.items (slots_in l.room.rows) (bounds_of l.run.out) (state_of l.initial.sink l.initial.seat) (state_of l.sink l.seat);
}
