use Rattle.index_set.proofs.Slabbing.{partition_there}
use Rattle.index_set.proofs.slabs.Slabs.sorting_for.Goals as goal

pub sorting_of-requires-clause-groups : goal.sorting_of-requires-clause-groups
sorting_of-requires-clause-groups g c lifetimes outlive = partition_there c.args.shelf.now c.in-Some.groups c.as_slice.result.now c.in-Some.ensures
