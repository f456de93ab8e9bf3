-- The tasks of a plan on a world.
use Rattle.std.specs.Prelude.{ℕ, ◌+◌, ◌/◌, List, map, length, slice_index_or}
use Rattle.sgl_values.specs.World.{World}
use Rattle.sgl_values.specs.declared.fault.Tag.{Tag}
use Rattle.sgl_typed.specs.Items.{start_with, task_rows}
use Rattle.sgl_typed.specs.declared.script.TScript.{TScript}
use Rattle.battle_algebra.specs.Meaning.{reached}
use Rattle.battle_algebra.specs.Plans.{plan_items, tree_in}
use Rattle.battle_algebra.specs.declared.normal_plan.NormalPlan.{NormalPlan}
use Rattle.task_scratch.specs.Job.{Job}

-- the tags of the effect attributes
abbrev pub effect_tags : TScript → List Tag
effect_tags script = map (λ effect. effect.tag) script.schema.effects

-- so many tasks have all these rows, 64 each but for the last
abbrev pub tasks_for : ℕ → ℕ
tasks_for rows = (rows + 63) / 64

-- how many frames of a task reach each node
abbrev pub task_reach : TScript → NormalPlan → World → ℕ → ℕ → List ℕ
task_reach script plan world seed task = reached (tree_in plan.plan.nodes) (map (start_with plan.plan.slots script world seed) (task_rows world.rows task))

-- a task has the plan's items of its rows, and the frames of these reach the nodes
abbrev pub job_of : TScript → NormalPlan → World → ℕ → ℕ → Job
job_of script plan world seed limit = record {
  rows = length world.rows;
  tags = effect_tags script;
  limit = limit;
  count = tasks_for (length world.rows);
  items = λ task. plan_items plan.plan.nodes plan.plan.slots script (task_rows world.rows task) world seed;
  nodes = length plan.plan.nodes;
  reach = λ task node. slice_index_or (task_reach script plan world seed task) node 0;
}
