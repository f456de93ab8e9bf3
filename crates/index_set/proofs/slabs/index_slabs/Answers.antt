use Rattle.index_set.proofs.slabs.index_slabs.Goals as goal

pub loop-node-preserved : goal.loop-node-preserved
loop-node-preserved g c = c.in_ok-add_node.ensures
