use Rattle.std.proofs.Common.{◌≡◌, ◌<◌, drop, map}
use Rattle.extreme_sweep.specs.Ranks.{ArePacked, HasLeft, unpacked}
use Rattle.extreme_sweep.specs.Tree.{IsTreeBut}
use Rattle.extreme_sweep.proofs.rank_tree.mend.Given as goal

abbrev pub invariant-loop-at : goal.invariant-loop-at
invariant-loop-at l = record {
  inside : l.at < l.leaves;
  packed : ArePacked l.nodes.items;
  others : IsTreeBut l.at l.leaves (map unpacked l.nodes.items);
  long : 0 < l.at → HasLeft l.left (map unpacked l.nodes.items) l.at;
  leaves : drop l.leaves l.nodes.items ≡ drop l.leaves l.initial.nodes.items;
}

abbrev pub decreases-loop-at : goal.decreases-loop-at
decreases-loop-at l = l.at
