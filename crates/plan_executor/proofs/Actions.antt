-- The arguments of an effect, which stand in a buffer.
use Rattle.std.proofs.Common.{◌≡◌, ℕ, ◌+◌, ◌≤◌, min, List, length, map, take, refl, ◌∙◌}
use Rattle.sgl_values.specs.World.{row_at}
use Rattle.sgl_values.specs.declared.fault.Val.{Val}
use Rattle.sgl_typed.specs.Aggregate.{simple_value}
use Rattle.sgl_typed.specs.Value.{Context}
use Rattle.sgl_typed.specs.declared.script.TExpr.{TExpr}
use Rattle.battle_algebra.specs.declared.plan.EffectUse.{EffectUse}
use Rattle.battle_algebra.specs.declared.plan.Node.TheVariants.{Effect}
use Rattle.index_set.specs.Frames.{frame_of}
use Rattle.index_set.specs.Sets.{acting}
use Rattle.index_set.proofs.Calls.{acted}
use Rattle.index_set.proofs.Nodes.{few_args}
use Rattle.plan_executor.specs.Running.{CanRun, IsActAt}
use Rattle.plan_executor.specs.declared.run.Run.{Run}
use Rattle.plan_executor.proofs.PlanNodes.{node_there}

-- an effect has at most sixteen
pub few_of : (run : Run) (node : ℕ) (act : EffectUse) → CanRun run → IsActAt run node act → length act.args ≤ 16
few_of run node act can at =
    let plan = run.plan.now.plan in
    few_args run.tick.script.now plan.nodes plan.slots node act at.way plan.shaped can.index.of (node_there run.nodes.now plan.nodes node (Effect act at.way) can.nodes at.is refl)

-- the frame of the clause has their values
pub acting_frame : (run : Run) (node row : ℕ) (slots : List Val) (act : EffectUse) (buffer : List Val) {frame clause : Context} {exprs : List TExpr} {count : ℕ} → CanRun run → IsActAt run node act
    → frame ≡ frame_of run.tick.script.now run.tick.world.now.world run.tick.seed (row_at run.tick.world.now.world (run.first + row)) slots → exprs ≡ act.args → count ≡ length act.args
    → take (min 16 (length exprs)) buffer ≡ map (simple_value frame) (take 16 exprs)
    → clause ≡ frame_of run.tick.script.now run.tick.world.now.world run.tick.seed (row_at run.tick.world.now.world (run.first + row)) (take count buffer)
    → clause ≡ acting run.tick.script.now run.tick.world.now.world run.tick.seed (run.first + row) slots act
acting_frame run node row slots act buffer {frame = frame} {exprs = exprs} {count = count} can at framed is counted filled made =
    made ∙ acted run.tick.script.now run.tick.world.now.world run.tick.seed (run.first + row) slots act frame exprs buffer count framed is counted (few_of run node act can at) filled
