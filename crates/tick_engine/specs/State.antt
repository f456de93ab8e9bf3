-- A battle as contracts see it.
use Rattle.std.specs.Prelude.{ℕ, Bool, List}
use Rattle.sgl_typed.specs.declared.script.TScript.{TScript}
use Rattle.battle_algebra.specs.declared.normal_plan.NormalPlan.{NormalPlan}
use Rattle.env_table.specs.Table.{Table}
use Rattle.tick_engine.specs.declared.settings.EngineSettings.{EngineSettings}

-- the script and its plan, the world of the last tick, whether the next tick is prepared, and how many frames reached each
-- node in the last tick of the plan that was not refused
pub record State : Type 0 where
  pub script : TScript
  pub plan : NormalPlan
  pub world : Table
  pub settings : EngineSettings
  pub ready : Bool
  pub reached : List ℕ
