-- The tasks of a tick, and its workers before they begin.
use Rattle.std.specs.Prelude.{◌≤◌, length}
use Rattle.effect_board.specs.declared.handles.EffectBoard.{EffectBoard}
use Rattle.index_set.specs.Sets.{IsIndexOf}
use Rattle.plan_executor.specs.PlanJob.{effect_tags, job_of}
use Rattle.task_board.specs.Working.{IsReady}
use Rattle.task_board.specs.declared.worker.Worker.{Worker}
use Rattle.task_scratch.specs.Job.{Job}
use Rattle.task_scratch.specs.Ran.{IsBoardFor}
use Rattle.task_scratch.specs.Scratch.{IsScratchFor}
use Rattle.tick_engine.specs.declared.task_run.TickRun.{TickRun}
use Rattle.sgl_values.specs.declared.limit.TheConstants.{ITEMS_MAX}

abbrev pub job_for : TickRun → Job
job_for run = job_of run.tick.script.now run.plan.now run.tick.world.now.world run.tick.seed run.limit

-- the indices are of the same, and the board is for these tasks
pub record CanWork (run : TickRun) (board : EffectBoard) : Type 0 where
  pub index : IsIndexOf run.index.now run.tick.script.now run.plan.now run.tick.world.now.world run.tick.seed
  pub limit : run.limit ≤ ITEMS_MAX
  pub made : IsBoardFor (job_for run) board

-- a worker that has not begun
abbrev pub IsFresh : TickRun → EffectBoard → Worker → Type 0
IsFresh run = IsReady (IsScratchFor run.plan.now (effect_tags run.tick.script.now)) (length run.plan.now.plan.nodes)
