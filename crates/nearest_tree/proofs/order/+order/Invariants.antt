use Rattle.std.proofs.Common.{length}
use Rattle.nearest_tree.proofs.order.+order.Given as goal

abbrev pub decreases-order : goal.decreases-order
decreases-order l = length l.points.now
