use Rattle.std.proofs.Common.{ℤ, List, take}
use Rattle.extreme_sweep.specs.Ranks.{rank_entries, unpacked, ArePlaced, IsPacked}
use Rattle.extreme_sweep.specs.Tree.{StandsFor}
use Rattle.extreme_sweep.proofs.rank_tree.node_of_places.Given as goal

abbrev pub invariant-loop-place : goal.invariant-loop-place
invariant-loop-place l = record {
  packed : IsPacked l.node;
  stands : (all : List ℤ) → ArePlaced all l.groups l.places → StandsFor (unpacked l.node) (rank_entries all (take l.place l.places));
}
