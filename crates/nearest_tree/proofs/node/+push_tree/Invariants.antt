use Rattle.std.proofs.Common.{length}
use Rattle.nearest_tree.proofs.node.+push_tree.Given as goal

abbrev pub decreases-push_tree : goal.decreases-push_tree
decreases-push_tree l = length l.points.now
