-- What a task runs on, and the frames of its rows.
use Rattle.std.specs.Prelude.{ℕ, ◌+◌, ◌≡◌, ◌<◌, ◌≤◌, true, List, [], length, slice_index_or}
use Rattle.sgl_values.specs.World.{row_at}
use Rattle.sgl_values.specs.declared.fault.Val.{Val}
use Rattle.battle_algebra.specs.Meaning.{Frame}
use Rattle.battle_algebra.specs.declared.plan.EffectUse.{EffectUse}
use Rattle.battle_algebra.specs.declared.plan.EffectWay.{EffectWay}
use Rattle.battle_algebra.specs.declared.plan.Node.TheVariants.{Empty, Effect}
use Rattle.effect_board.specs.Handles.{rows_of, tags_of}
use Rattle.index_set.specs.Frames.{frame_of}
use Rattle.index_set.specs.Sets.{IsIndexOf}
use Rattle.task_scratch.specs.Scratch.{AreWide}
use Rattle.sgl_lanes.specs.Lanes.{has}
use Rattle.plan_executor.specs.Frames.{mask_at}
use Rattle.plan_executor.specs.declared.run.Run.{Run}
use Rattle.sgl_values.specs.declared.limit.TheConstants.{TASK_ROWS}

-- the index was built of the same, the nodes are those of the plan, and the board has the rows and the effect attributes
pub record CanRun (run : Run) : Type 0 where
  pub index : IsIndexOf run.index.now run.tick.script.now run.plan.now run.tick.world.now.world run.tick.seed
  pub nodes : run.nodes.now ≡ run.plan.now.plan.nodes
  pub rows : rows_of run.out.board.now ≡ length run.tick.world.now.world.rows
  pub tags : length run.tick.script.now.schema.effects ≡ length (tags_of run.out.board.now)

-- the frame of a row without its slots
abbrev pub base_of : Run → ℕ → Frame
base_of run row = frame_of run.tick.script.now run.tick.world.now.world run.tick.seed (row_at run.tick.world.now.world (run.first + row)) []

-- the node is the effect of this use
pub record IsActAt (run : Run) (node : ℕ) (act : EffectUse) : Type 0 where
  pub way : EffectWay
  pub is : slice_index_or run.nodes.now node Empty ≡ Effect act way

-- the rows of the set are in the world, and below 64
pub record IsInside (run : Run) (mask : ℕ) : Type 0 where
  pub is : (row : ℕ) → has mask row ≡ true → run.first + row < length run.tick.world.now.world.rows
  pub below : (row : ℕ) → has mask row ≡ true → row < TASK_ROWS

-- the same of each node; one whose number is too great for 32 bits has no rows
pub record AreInside (run : Run) (masks : List ℕ) : Type 0 where
  pub is : (node : ℕ) → IsInside run (mask_at masks node)
  pub none : (node : ℕ) → 4294967296 ≤ node → mask_at masks node ≡ 0

-- a row has as many slots as before
pub record KeepWidth (old new : List (List Val)) : Type 0 where
  pub is : (width : ℕ) → AreWide width old → AreWide width new

-- no rows
pub record AreEmpty (masks : List ℕ) : Type 0 where
  pub is : (node : ℕ) → mask_at masks node ≡ 0
