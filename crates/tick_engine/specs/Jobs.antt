-- What is told of a tick behind the work of all workers, and its board.
use Rattle.std.specs.Prelude.{◌≡◌, ℕ, Bool, true, false, List, length, map, slice_index_or}
use Rattle.std.specs.List.Sorted.{IsPermutation}
use Rattle.sgl_values.specs.World.{World}
use Rattle.sgl_values.specs.declared.fault.Tag.{Tag}
use Rattle.sgl_typed.specs.Items.{start_with, tick_items}
use Rattle.sgl_typed.specs.declared.script.TScript.{TScript}
use Rattle.battle_algebra.specs.Meaning.{reached}
use Rattle.battle_algebra.specs.Plans.{tree_in}
use Rattle.battle_algebra.specs.declared.normal_plan.NormalPlan.{NormalPlan}
use Rattle.effect_board.specs.declared.handles.EffectBoard.{EffectBoard}
use Rattle.effect_board.specs.Handles as boards
use Rattle.effect_combine.specs.Combined.{CellWords}
use Rattle.plan_executor.specs.PlanJob.{job_of, tasks_for}
use Rattle.task_scratch.specs.Scratch.{reach_at}
use Rattle.task_board.specs.Job.{all_items}
use Rattle.task_board.specs.Summing.{Totals}
use Rattle.task_board.specs.declared.summary.Summary.{Summary}
use Rattle.task_board.specs.declared.summary.Summary.TheVariants.{Over, Counted}

-- what is told of a tick behind the work: the summary and the words are true of its items in some order
pub record IsTold (script : TScript) (world : World) (seed limit : ℕ) (table : CellWords) (summary : Summary) : Type 0 where
  pub plan : NormalPlan
  pub are : IsPermutation (tick_items script world seed) (all_items (job_of script plan world seed limit))
  pub totals : Totals (job_of script plan world seed limit) table summary (all_items (job_of script plan world seed limit))

-- whether the limit was passed
abbrev pub is_over : Summary → Bool
is_over Over = true
is_over (Counted count least) = false

-- how many frames reach a node of the plan, one for each row of the world
abbrev pub frames_at : TScript → NormalPlan → World → ℕ → ℕ → ℕ
frames_at script plan world seed node = slice_index_or (reached (tree_in plan.plan.nodes) (map (start_with plan.plan.slots script world seed) world.rows)) node 0

-- the counts of the nodes
abbrev pub AreReached : TScript → NormalPlan → World → ℕ → List ℕ → Type 0
AreReached script plan world seed reach = (node : ℕ) → reach_at reach node ≡ frames_at script plan world seed node

-- a board for the tasks and the rows of a world, and for these tags
pub record IsTickBoard (world : World) (tags : List Tag) (board : EffectBoard) : Type 0 where
  pub tasks : boards.tasks_of board ≡ tasks_for (length world.rows)
  pub rows : boards.rows_of board ≡ length world.rows
  pub tags_are : boards.tags_of board ≡ tags
