-- The points are laid out in another order.
use Rattle.std.proofs.Common.{◌∙◌}
use Rattle.std.proofs.lemmas.Result.{IfOk-weaker}
use Rattle.extreme_sweep.proofs.Scanning.{least-moved}
use Rattle.extreme_sweep.proofs.laid.sweep.Goals as goal

pub returns : goal.returns
returns g c = IfOk-weaker c.sweep.result _ _
    (λ answers are. are ∙ least-moved c.args.points.now c.in_ok-laid.laid c.args.windows.now c.in_ok-laid.ensures) c.sweep.ensures
