-- No edge is passed yet, and both trees stand for 0.
use Rattle.std.proofs.Common.{arith}
use Rattle.std.proofs.lemmas.List.Sorted.{length_permutation}
use Rattle.area_effects.proofs.Covering.{length-edges_of}
use Rattle.area_effects.proofs.sweep.Sweep.begin.Goals as goal

pub returns-clause-sweep : goal.returns-clause-sweep
returns-clause-sweep c =
    let xs = c.args.xs.now.numbers.items in let ys = c.args.ys.now.numbers.items in let boxes = c.args.boxes.now in
    record {
      few = omega (arith, c.requires.few_boxes, length_permutation _ _ c.put_edges.ensures.same, length-edges_of xs ys boxes);
      few_ranks = omega (arith, c.requires.ys.few, c.clear.ensures.length);
      same_ranks = omega (arith, c.clear.ensures.length, c.clear-2.ensures.length);
      edges = c.put_edges.ensures.edges;
      rising = c.put_edges.ensures.rising;
      last = omega arith;
      amounts = c.clear.ensures.sums;
      counts = c.clear-2.ensures.sums;
    }
