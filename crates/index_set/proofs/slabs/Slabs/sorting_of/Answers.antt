use Rattle.std.proofs.Common.{refl}
use Rattle.index_set.specs.Slabs.{IsOnShelf}
use Rattle.index_set.specs.declared.sorting.Sorting.{Sorting}
use Rattle.index_set.proofs.Slabbing.{indexed_partition, slabs_more, sorts_keep}
use Rattle.index_set.proofs.slabs.Slabs.sorting_of.Goals as goal

pub build-requires-after_bounds : goal.build-requires-after_bounds
build-requires-after_bounds g c κs within =
    let shelf = c.args.shelf.now in
    let taken = c.index-as_slice-groups.result in
    let at = indexed_partition c.as_slice.result.now shelf.partitions c.args.groups taken c.index-as_slice-groups.is c.as_slice.ensures c.requires.groups in
    (c.requires.shelf.groups c.args.groups taken at).count

pub returns-clause-slabs : goal.returns-clause-slabs
returns-clause-slabs g c =
    let shelf = c.args.shelf.now in
    let world = c.args.world.now.world in
    let taken = c.index-as_slice-groups.result in
    let at = indexed_partition c.as_slice.result.now shelf.partitions c.args.groups taken c.index-as_slice-groups.is c.as_slice.ensures c.requires.groups in
    let sorting : Sorting = record { groups = c.args.groups; axis = c.args.axis; across = c.args.across; sorted = c.in_ok-sorted.sorted } in
    let on : IsOnShelf shelf sorting world = record { groups = taken; at = at; of = c.requires.shelf.groups c.args.groups taken at; held = c.in_ok-sorted.ensures } in
    slabs_more c.args.self.now _ shelf world sorting c.in_ok-push.ensures.ok c.requires.slabs on

pub returns-clause-keeps : goal.returns-clause-keeps
returns-clause-keeps g c = sorts_keep c.args.self.now _ _ refl c.in_ok-push.ensures.ok
