use Rattle.std.proofs.Common.{◌≡◌, length}
use Rattle.structure_tests.proofs.tests.sweeps.the_least_of_many_places.Given as goal

abbrev pub invariant-loop-place : goal.invariant-loop-place
invariant-loop-place g l = length l.tree ≡ 1000

abbrev pub invariant-loop-place-2 : goal.invariant-loop-place-2
invariant-loop-place-2 g l = length l.tree ≡ 1000
