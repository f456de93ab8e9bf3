-- The room of a task, and its buffers.
use Rattle.std.specs.Prelude.{◌≡◌, length}
use Rattle.task_scratch.specs.Scratch.{AreWide}
use Rattle.task_scratch.specs.declared.room.Room.{Room}
use Rattle.sgl_values.specs.declared.limit.TheConstants.{EFFECTS_MAX, PARAMS_MAX, TASK_ROWS}

-- 64 rows, a buffer for the slots of one, and buffers for sixteen arguments and writes
pub record HasBuffers (room : Room) : Type 0 where
  pub rows : length room.rows ≡ TASK_ROWS
  pub frame : AreWide (length room.frame.items) room.rows
  pub args : length room.args.items ≡ PARAMS_MAX
  pub arg_lanes : length room.arg_lanes.items ≡ PARAMS_MAX
  pub amounts : length room.amounts.items ≡ EFFECTS_MAX

-- no more than buffers changed
pub record KeepsRows (old new : Room) : Type 0 where
  pub masks : new.masks.items ≡ old.masks.items
  pub rows : new.rows ≡ old.rows
  pub reach : new.reach.items ≡ old.reach.items
