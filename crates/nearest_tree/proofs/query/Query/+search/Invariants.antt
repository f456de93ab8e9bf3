use Rattle.std.proofs.Common.{length}
use Rattle.nearest_tree.proofs.query.Query.+search.Given as goal

abbrev pub decreases-search : goal.decreases-search
decreases-search l = length l.nodes.now
