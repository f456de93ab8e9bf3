use Rattle.std.proofs.Common.{◌∙◌, ◌==◌, ◌&&◌, ap, sym}
use Rattle.sgl_lanes.proofs.LaneSets.{has_zero}
use Rattle.tick_postprocess.proofs.lane_sets.lane_if.Goals as goal

pub returns-else-holds : goal.returns-else-holds
returns-else-holds c k = has_zero k ∙ sym (ap (λ b. b && k == c.args.lane) c.if-holds.false)
