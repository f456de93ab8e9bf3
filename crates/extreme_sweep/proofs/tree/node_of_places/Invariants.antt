use Rattle.std.proofs.Common.{take}
use Rattle.extreme_sweep.specs.Tree.{StandsFor}
use Rattle.extreme_sweep.proofs.tree.node_of_places.Given as goal

abbrev pub invariant-loop-place : goal.invariant-loop-place
invariant-loop-place l = StandsFor l.node (take l.place-index l.places)
