-- The answers of an extreme for all acting rows.
use Rattle.std.specs.Prelude.{◌≡◌, ℕ, ◌<◌, List, length}
use Rattle.sgl_values.specs.World.{World}
use Rattle.sgl_values.specs.declared.fault.Val.{Val}
use Rattle.sgl_typed.specs.declared.script.TAgg.{TAgg}
use Rattle.sgl_typed.specs.declared.script.TExpr.{TExpr}
use Rattle.sgl_typed.specs.declared.script.TScript.{TScript}
use Rattle.sgl_typed.specs.Aggregate.{aggregate}
use Rattle.group_sweeps.specs.declared.swept.Swept.{Swept}
use Rattle.group_sweeps.specs.Acting.{acting}
use Rattle.group_sweeps.specs.Extremes.{target_of}
use Rattle.group_sweeps.specs.Finds.{found_at}
use Rattle.group_sweeps.specs.Found.{found_value}

-- the answer for a row
abbrev pub swept_value : Swept → TAgg → World → ℕ → Val
swept_value swept agg world row = found_value world (target_of agg.kind agg.attr) agg.otherwise swept.faults.items (found_at swept.found.items row)

-- for each row it is the value of the aggregate with these arguments
pub record AreAnswers (swept : Swept) (agg : TAgg) (script : TScript) (world : World) (seed : ℕ) (args : List TExpr) : Type 0 where
  pub each : (row : ℕ) → row < length world.rows
      → swept_value swept agg world row ≡ aggregate agg (acting script world seed row args) (acting script world seed row args).slots
