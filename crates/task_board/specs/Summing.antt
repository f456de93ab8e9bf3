-- What is told of items besides their effects.
use Rattle.std.specs.Prelude.{◌≡◌, ℕ, ◌+◌, nat_lt, if◌then◌else◌, ◌<◌, ◌≤◌, true, List, length, Option}
use Rattle.std.specs.List.{list_all}
use Rattle.sgl_values.specs.Least.{least_of, lesser_of}
use Rattle.sgl_values.specs.ItemOrder.{item_fault_cmp}
use Rattle.sgl_values.specs.declared.item.Item.{Item}
use Rattle.sgl_values.specs.declared.item.ItemFault.{ItemFault}
use Rattle.sgl_typed.specs.Tick.{item_faults}
use Rattle.effect_combine.specs.Combined.{CellWords, Combines}
use Rattle.tick_core.specs.Standing.{StandForItems}
use Rattle.tick_core.specs.declared.event.Give.{Give}
use Rattle.task_scratch.specs.declared.task_done.TaskDone.{TaskDone}
use Rattle.task_board.specs.declared.summary.Summary.{Summary}
use Rattle.task_board.specs.declared.summary.Summary.TheVariants.{Over, Counted}
use Rattle.task_scratch.specs.Job.{Job, capped, item_fits}
use Rattle.task_scratch.specs.Scratch.{reach_at}
use Rattle.task_board.specs.Job.{reach_of}

-- all that a tick asks of its items, for those that are within the limit
pub record Whole (job : Job) (count : ℕ) (least : Option ItemFault) (gives : List Give) (items : List Item) : Type 0 where
  pub count_is : count ≡ length items
  pub within : count ≤ job.limit
  pub least_is : least ≡ least_of item_fault_cmp (item_faults items)
  pub fit : list_all item_fits items ≡ true
  pub stand : StandForItems job.rows job.tags gives items

-- the summary and the gives are true of the items
abbrev pub Tells : Job → Summary → List Give → List Item → Type 0
Tells job Over gives items = job.limit < length items
Tells job (Counted count least) gives items = Whole job count least gives items

-- the summary of so many items
abbrev pub counted : ℕ → ℕ → Option ItemFault → Summary
counted limit count least = if nat_lt limit count then Over else Counted count least

-- the summary of a task
abbrev pub told_of : TaskDone → Summary
told_of done = if done.over then Over else Counted done.items done.least

-- the summary of the items of both
abbrev pub both_of : ℕ → Summary → Summary → Summary
both_of limit Over other = Over
both_of limit (Counted count least) Over = Over
both_of limit (Counted count least) (Counted more other) = counted limit (count + more) (lesser_of item_fault_cmp least other)

-- the same for items that are within the limit, and the words of all cells
pub record Counts (job : Job) (table : CellWords) (count : ℕ) (least : Option ItemFault) (items : List Item) : Type 0 where
  pub count_is : count ≡ length items
  pub within : count ≤ job.limit
  pub least_is : least ≡ least_of item_fault_cmp (item_faults items)
  pub combines : Combines job.rows job.tags items table

-- the counts of the nodes are those of the tasks, where the limit is not passed
abbrev pub Reaches : Job → Summary → List ℕ → List ℕ → Type 0
Reaches job Over reach tasks = Unit {0}
Reaches job (Counted count least) reach tasks = (node : ℕ) → reach_at reach node ≡ capped (reach_of job node tasks)

-- the summary and the words are true of the items
abbrev pub Totals : Job → CellWords → Summary → List Item → Type 0
Totals job table Over items = job.limit < length items
Totals job table (Counted count least) items = Counts job table count least items
