-- What is prepared for a tick.
use Rattle.std.specs.Prelude.{◌≡◌, ◌<◌, ℕ, List, true, false, length}
use Rattle.sgl_typed.specs.declared.script.TScript.{TScript}
use Rattle.battle_algebra.specs.declared.normal_plan.NormalPlan.{NormalPlan}
use Rattle.env_table.specs.Table.{Table}
use Rattle.index_set.specs.Sets.{IsIndexOf}
use Rattle.plan_executor.specs.PlanJob.{effect_tags}
use Rattle.tick_postprocess.specs.Pieces.{ArePieces}
use Rattle.tick_postprocess.specs.Rows.{IsReady}
use Rattle.tick_postprocess.specs.declared.piece.PostPiece.{PostPiece}
use Rattle.task_board.specs.Working.{AreWorkers}
use Rattle.task_scratch.specs.Scratch.{IsScratchFor}
use Rattle.tick_engine.specs.Jobs.{IsTickBoard}
use Rattle.tick_engine.specs.declared.prepared.Prepared.{Prepared}
use Rattle.tick_engine.specs.declared.prepared.Setup.{Setup}
use Rattle.tick_engine.specs.declared.prepared.Setup.TheVariants.{Plain, Planned}
use Rattle.tick_engine.specs.declared.settings.EngineSettings.{EngineSettings}
use Rattle.sgl_values.specs.declared.limit.TheConstants.{TICKS_MAX}

-- pieces of the world, or none
abbrev pub MayBePieces : Table → List PostPiece → Type 0
MayBePieces world pieces = 0 < length pieces → ArePieces world pieces

-- indices, a board, workers, room for the next world and pieces of its rows for the tick behind this world
pub record IsPrepared (script : TScript) (plan : NormalPlan) (world : Table) (seed count : ℕ) (prepared : Prepared) : Type 0 where
  pub index : IsIndexOf prepared.index script plan world.world seed
  pub board : IsTickBoard world.world (effect_tags script) prepared.board
  pub workers : AreWorkers (IsScratchFor plan (effect_tags script)) (length plan.plan.nodes) prepared.board prepared.workers.items
  pub many : length prepared.workers.items ≡ count
  pub out : IsReady prepared.out world
  pub pieces : MayBePieces world prepared.pieces.items

-- what is prepared is for the engine of these settings
abbrev pub IsSetup : TScript → NormalPlan → Table → EngineSettings → Setup → Type 0
IsSetup script plan world settings Plain = (settings.plain ≡ true) × (world.world.tick < TICKS_MAX)
IsSetup script plan world settings (Planned prepared) = (settings.plain ≡ false) × IsPrepared script plan world settings.seed settings.workers prepared
