use Rattle.index_set.specs.Prepared.{ArePreparedOf}
use Rattle.index_set.proofs.prepared.prepare_nodes.Given as goal

abbrev pub invariant-loop-node : goal.invariant-loop-node
invariant-loop-node g l = ArePreparedOf l.ready l.shelf l.of
