-- The frames of a task as lanes.
use Rattle.std.specs.Prelude.{ℕ, ◌+◌, ◌≡◌, ◌<◌, length}
use Rattle.sgl_typed.specs.Value.{Context}
use Rattle.task_scratch.specs.Scratch.{slots_in}
use Rattle.plan_executor.specs.Frames.{with_slots}
use Rattle.plan_executor.specs.Running.{base_of}
use Rattle.plan_executor.specs.declared.values.FrameLanes.{FrameLanes}
use Rattle.sgl_values.specs.declared.limit.TheConstants.{TASK_ROWS}

-- the frame of a lane
abbrev pub lane_frame : FrameLanes → ℕ → Context
lane_frame it = with_slots (base_of it.run.now) (slots_in it.rows.now)

-- the lane is one of 64, and its row is in the world
pub record CanRead (it : FrameLanes) (lane : ℕ) : Type 0 where
  pub below : lane < TASK_ROWS
  pub long : length it.rows.now ≡ TASK_ROWS
  pub row : it.run.now.first + lane < length it.run.now.tick.world.now.world.rows
