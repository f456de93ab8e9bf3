-- The size of what is still to be evaluated.
use Rattle.std.proofs.Common.{◌+◌, ◌*◌}
use Rattle.sgl_typed.proofs.script.TExpr.TheLaws.{the_size}
use Rattle.sgl_lanes.proofs.evaluation.+lanes.Given as goal

abbrev pub decreases-lanes_beside : goal.decreases-lanes_beside
decreases-lanes_beside g l = 3 * the_size l.expr.now

abbrev pub decreases-operate_beside : goal.decreases-operate_beside
decreases-operate_beside g l = 3 * the_size l.pending.now.right.now + 1

abbrev pub decreases-operate_without_room : goal.decreases-operate_without_room
decreases-operate_without_room g l = 3 * the_size l.pending.now.right.now + 2
