use Rattle.std.proofs.Common.{◌≡◌, ◌-◌, ◌<◌, ◌≤◌, length, map}
use Rattle.sgl_values.specs.Least.{lesser_of}
use Rattle.extreme_sweep.specs.Pairs.{pair_cmp}
use Rattle.extreme_sweep.specs.Ranks.{pair_of_rank, unpacked}
use Rattle.extreme_sweep.specs.Tree.{least_of_nodes}
use Rattle.extreme_sweep.proofs.rank_tree.least_of_span.Given as goal

abbrev pub invariant-loop-low : goal.invariant-loop-low
invariant-loop-low l = record {
  first : 0 < l.low;
  order : l.low ≤ l.high;
  last : l.high ≤ length l.nodes;
  least : lesser_of pair_cmp (pair_of_rank l.least) (least_of_nodes l.other_than (map unpacked l.nodes) l.low (l.high - l.low))
      ≡ least_of_nodes l.other_than (map unpacked l.nodes) l.initial.low (l.initial.high - l.initial.low);
}

abbrev pub decreases-loop-low : goal.decreases-loop-low
decreases-loop-low l = l.high
