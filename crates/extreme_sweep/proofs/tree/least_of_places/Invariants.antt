use Rattle.std.proofs.Common.{◌≡◌, take}
use Rattle.extreme_sweep.specs.Pairs.{least_other_than}
use Rattle.extreme_sweep.specs.Places.{entries_of}
use Rattle.extreme_sweep.proofs.tree.least_of_places.Given as goal

abbrev pub invariant-loop-place : goal.invariant-loop-place
invariant-loop-place l = l.least ≡ least_other_than l.other_than (entries_of (take l.place-index l.places))
