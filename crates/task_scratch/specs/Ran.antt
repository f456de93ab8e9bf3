-- What a task tells and gives.
use Rattle.std.specs.Prelude.{◌≡◌, ℕ, ◌+◌, nat_lt, true, false, List, length}
use Rattle.std.specs.List.{list_all}
use Rattle.sgl_values.specs.ItemOrder.{item_fault_cmp}
use Rattle.sgl_values.specs.Least.{least_of}
use Rattle.sgl_typed.specs.Tick.{item_faults}
use Rattle.tick_core.specs.Standing.{StandForItems}
use Rattle.tick_core.specs.declared.event.Give.{Give}
use Rattle.effect_board.specs.Handles.{tasks_of, rows_of, tags_of}
use Rattle.effect_board.specs.Views.{giving_all}
use Rattle.effect_board.specs.declared.handles.EffectBoard.{EffectBoard}
use Rattle.effect_board.specs.declared.view.View.{View}
use Rattle.task_scratch.specs.Job.{Job, capped, item_fits}
use Rattle.task_scratch.specs.Scratch.{reach_at}
use Rattle.task_scratch.specs.declared.scratch.Scratch.{Scratch}
use Rattle.task_scratch.specs.declared.task_done.TaskDone.{TaskDone}

-- a board of so many tasks, rows and tags
pub record IsBoardFor (job : Job) (board : EffectBoard) : Type 0 where
  pub tasks : tasks_of board ≡ job.count
  pub rows : rows_of board ≡ job.rows
  pub tags : tags_of board ≡ job.tags

-- what is told of a task that is not over
pub record RanWhole (job : Job) (task : ℕ) (old : Scratch) (done : TaskDone) (new : Scratch) (gives : List Give) : Type 0 where
  pub count : done.items ≡ length (job.items task)
  pub counted : new.sink.items ≡ old.sink.items + length (job.items task)
  pub reach : (node : ℕ) → reach_at new.room.reach.items node ≡ capped (reach_at old.room.reach.items node + job.reach task node)
  pub least : done.least ≡ least_of item_fault_cmp (item_faults (job.items task))
  pub fit : list_all item_fits (job.items task) ≡ true
  pub stand : StandForItems job.rows job.tags gives (job.items task)

-- a task was run: it is over exactly where the scratch's items with its own pass the limit
pub record Ran (job : Job) (task : ℕ) (old : Scratch) (done : TaskDone) (new : Scratch) (before after : View) : Type 0 where
  pub gives : List Give
  pub added : after ≡ giving_all before gives
  pub runs : new.runs ≡ old.runs + 1
  pub sized : length new.room.reach.items ≡ length old.room.reach.items
  pub over : done.over ≡ nat_lt job.limit (old.sink.items + length (job.items task))
  pub whole : done.over ≡ false → RanWhole job task old done new gives
