use Rattle.index_set.specs.Sweeps.{AreSweptTo}
use Rattle.index_set.proofs.sweeps.sweep_nodes.Given as goal

abbrev pub invariant-loop-node : goal.invariant-loop-node
invariant-loop-node g l = AreSweptTo l.sweeps l.from.of.now l.node
