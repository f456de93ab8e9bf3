-- The items of tasks, and the frames that reach a node.
use Rattle.std.specs.Prelude.{ℕ, ◌+◌, List, flat_map}
use Rattle.std.specs.List.{range_with_len}
use Rattle.sgl_values.specs.Totals.{total}
use Rattle.sgl_values.specs.declared.item.Item.{Item}
use Rattle.task_scratch.specs.Job.{Job}

-- the items of these tasks, task by task
abbrev pub items_of : Job → List ℕ → List Item
items_of job tasks = flat_map job.items tasks

-- the items of all tasks
abbrev pub all_items : Job → List Item
all_items job = items_of job (range_with_len 0 job.count)

-- how many frames of these tasks reach a node
abbrev pub reach_of : Job → ℕ → List ℕ → ℕ
reach_of job node tasks = total (λ (a b : ℕ). a + b) 0 (λ task. job.reach task node) tasks
