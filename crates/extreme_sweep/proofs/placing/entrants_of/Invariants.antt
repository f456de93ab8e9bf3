use Rattle.std.proofs.Common.{◌≡◌, map, take}
use Rattle.extreme_sweep.specs.Laying.{entrant_of}
use Rattle.extreme_sweep.proofs.placing.entrants_of.Given as goal

abbrev pub invariant-loop-rank : goal.invariant-loop-rank
invariant-loop-rank l = l.entrants.items ≡ map (entrant_of l.places l.groups) (take l.rank-index l.ranks)
