use Rattle.index_set.specs.Slabs.{AreUsedTo}
use Rattle.index_set.proofs.slabs.index_slabs.Given as goal

abbrev pub invariant-loop-node : goal.invariant-loop-node
invariant-loop-node g l = AreUsedTo l.slabs l.shelf l.of l.node
