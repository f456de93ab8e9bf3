use Rattle.std.proofs.Common.{◌≡◌, drop, []}
use Rattle.sgl_expand.specs.Sizes.{nodes_in, depths_in, capped_nodes, capped_depths}
use Rattle.sgl_expand.proofs.sizes.measure_routines.Given as goal

abbrev pub invariant-loop-routine : goal.invariant-loop-routine
invariant-loop-routine l =
    (capped_nodes (nodes_in l.sizes.items) (drop l.routine-index l.routines) ≡ capped_nodes [] l.routines)
    × (capped_depths (depths_in l.sizes.items) (drop l.routine-index l.routines) ≡ capped_depths [] l.routines)
