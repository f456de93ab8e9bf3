-- Calls whose arguments are written as numbers.
use Rattle.std.specs.Prelude.{◌≡◌, ◌≤◌, ℕ, List, length, map, take, slice_index_or}
use Rattle.sgl_values.specs.declared.fault.Val.{Val}
use Rattle.sgl_typed.specs.Aggregate.{simple_value}
use Rattle.sgl_typed.specs.declared.script.AggUse.{AggUse}
use Rattle.battle_algebra.specs.Meaning.{Frame}
use Rattle.battle_algebra.specs.declared.plan.Node.TheVariants.{Empty, Agg}
use Rattle.battle_algebra.specs.declared.plan.Way.{Way}
use Rattle.plan_executor.specs.declared.run.Run.{Run}
use Rattle.sgl_values.specs.declared.limit.TheConstants.{PARAMS_MAX}

-- the node calls an aggregate, and these are the values of its arguments in every frame, of which there are at most sixteen
pub record AreWritten (run : Run) (node : ℕ) (args : List Val) : Type 0 where
  pub slot : ℕ
  pub call : AggUse
  pub way : Way
  pub child : ℕ
  pub calls : slice_index_or run.nodes.now node Empty ≡ Agg slot call way child
  pub few : length args ≤ PARAMS_MAX
  pub are : (f : Frame) → args ≡ map (simple_value f) call.args

-- so many values of a buffer are such arguments
pub record AreRead (run : Run) (node count : ℕ) (buffer : List Val) : Type 0 where
  pub room : count ≤ length buffer
  pub written : AreWritten run node (take count buffer)
