use Rattle.std.proofs.Common.{◌≡◌, ℤ, List, take}
use Rattle.extreme_sweep.specs.Pairs.{least_other_than}
use Rattle.extreme_sweep.specs.Places.{entries_of}
use Rattle.extreme_sweep.specs.Ranks.{pair_of_rank, rank_entries, ArePlaced}
use Rattle.extreme_sweep.proofs.rank_tree.least_of_places.Given as goal

abbrev pub invariant-loop-place : goal.invariant-loop-place
invariant-loop-place l = (all : List ℤ) → ArePlaced all l.groups l.places → pair_of_rank l.least ≡ least_other_than l.other_than (entries_of (rank_entries all (take l.place l.places)))
