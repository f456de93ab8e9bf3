-- Acting rows.
use Rattle.std.specs.Prelude.{ℕ, List, [], map}
use Rattle.sgl_values.specs.World.{World, row_at}
use Rattle.sgl_values.specs.declared.fault.Val.{Val}
use Rattle.sgl_typed.specs.declared.script.TExpr.{TExpr}
use Rattle.sgl_typed.specs.declared.script.TScript.{TScript}
use Rattle.sgl_typed.specs.Aggregate.{simple_value}
use Rattle.sgl_typed.specs.Value.{Context}

-- a row acts, with these slots
abbrev pub row_context : TScript → World → ℕ → ℕ → List Val → Context
row_context script world seed row slots = record {
  script = script;
  world = world;
  seed = seed;
  unit = row_at world row;
  slots = slots;
  target = row_at world row;
  combined = [];
}

-- a row acts, with the values of arguments that read no slot as its slots
abbrev pub acting : TScript → World → ℕ → ℕ → List TExpr → Context
acting script world seed row args = row_context script world seed row (map (simple_value (row_context script world seed row [])) args)
