use Rattle.index_set.proofs.targets.walk_of.Goals as goal

pub slab_walk-requires-clause-slab : goal.slab_walk-requires-clause-slab
slab_walk-requires-clause-slab c = c.requires.slab c.in-Some.slab c.in-Some.is
