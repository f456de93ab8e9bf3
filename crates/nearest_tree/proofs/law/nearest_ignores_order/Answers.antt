use Rattle.nearest_tree.proofs.Searching.{nearest-IsPermutation}
use Rattle.nearest_tree.proofs.law.nearest_ignores_order.Goals as goal

pub returns : goal.returns
returns c = nearest-IsPermutation
