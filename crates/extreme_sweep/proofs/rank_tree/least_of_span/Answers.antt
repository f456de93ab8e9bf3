-- A node alone at an end is taken, and the others are those below their pairs.
use Rattle.std.proofs.Common.{◌≡◌, ◌∙◌, ◌-◌, ◌/◌, ◌<◌, ℕ, List, length, map, get_or, min, ap, sym, arith}
use Rattle.std.proofs.lemmas.List.{get_or_default, length-map}
use Rattle.std.specs.Prelude.{Option, ℤ}
use Rattle.extreme_sweep.specs.declared.pair.Pair.{Pair}
use Rattle.extreme_sweep.specs.declared.rank_node.RankNode.{RankNode}
use Rattle.extreme_sweep.specs.Nodes.{least_below}
use Rattle.extreme_sweep.specs.Ranks.{pair_of_rank, rank_below, rank_node_at, unpacked, ArePacked}
use Rattle.extreme_sweep.specs.Tree.{node_at}
use Rattle.extreme_sweep.proofs.Packing.{below-unpacked, node-unpacked, pair-min}
use Rattle.extreme_sweep.proofs.PairLaws.{lesser}
use Rattle.extreme_sweep.proofs.Runs.{BeginsEven, begins-taken, begins-kept, EndsEven, ends-taken, ends-kept, run-halved}
use Rattle.extreme_sweep.proofs.rank_tree.least_of_span.Goals as goal
use Rattle.extreme_sweep.proofs.rank_tree.least_of_span.Goals.{then-low-eq1, else-low-eq1, then-high-eq1, else-high-eq1}

-- the lesser with what stands below a node that was read
with-read : (other : Option ℤ) (nodes : List RankNode) (k least read taken : ℕ) (d : RankNode) → k < length nodes → ArePacked nodes
    → read ≡ rank_below other (get_or nodes k d) → taken ≡ min least read → pair_of_rank taken ≡ lesser (pair_of_rank least) (least_below other (node_at (map unpacked nodes) k))
with-read other nodes k least read taken d inside packed read-is taken-is =
    ap pair_of_rank taken-is ∙ pair-min least read
    ∙ ap (lesser (pair_of_rank least)) (ap pair_of_rank (read-is ∙ ap (rank_below other) (get_or_default nodes k d _ inside))
    ∙ sym (below-unpacked (rank_node_at nodes k) (packed k) other) ∙ ap (least_below other) (sym (node-unpacked nodes k)))

pub loop-low-preserved : goal.loop-low-preserved
loop-low-preserved c =
    let nodes = c.args.nodes.now in let other = c.args.other_than in let old = c.loop-low.invariant in let packed = c.requires.packed in
    let f : ℕ → Option Pair = λ k. least_below other (node_at (map unpacked nodes) k) in
    let begins : BeginsEven f c.loop-low.low c.loop-low.high c.if-low-eq1.low (pair_of_rank c.loop-low.least) (pair_of_rank c.if-low-eq1.least) = elim c.if-low-eq1.branch [
      | then-low-eq1 w ↦ begins-taken f c.loop-low.low c.loop-low.high c.if-low-eq1.low (pair_of_rank c.loop-low.least) (pair_of_rank c.if-low-eq1.least) c.loop-low-test.true w.if-low-eq1.true w.low-is
          (ap pair_of_rank w.least-is ∙ with-read other nodes c.loop-low.low c.loop-low.least _ _ _ (omega (arith, old.last)) packed w.least.ensures w.min-least.ensures)
      | else-low-eq1 w ↦ begins-kept f c.loop-low.low c.loop-low.high c.if-low-eq1.low (pair_of_rank c.loop-low.least) (pair_of_rank c.if-low-eq1.least) old.first c.loop-low-test.true w.if-low-eq1.false w.low-is (ap pair_of_rank w.least-is)
    ] in
    let ends : EndsEven f c.if-low-eq1.low c.loop-low.high c.if-high-eq1.high (pair_of_rank c.if-low-eq1.least) (pair_of_rank c.if-high-eq1.least) = elim c.if-high-eq1.branch [
      | then-high-eq1 w ↦ ends-taken f c.if-low-eq1.low c.loop-low.high c.if-high-eq1.high (pair_of_rank c.if-low-eq1.least) (pair_of_rank c.if-high-eq1.least) begins.order begins.even w.if-high-eq1.true w.high-is
          (ap pair_of_rank w.least-is ∙ with-read other nodes (c.loop-low.high - 1) c.if-low-eq1.least _ _ _ (omega (arith, old.last)) packed w.least-then-high-eq1.ensures w.min-least-then-high-eq1.ensures)
      | else-high-eq1 w ↦ ends-kept f c.if-low-eq1.low c.loop-low.high c.if-high-eq1.high (pair_of_rank c.if-low-eq1.least) (pair_of_rank c.if-high-eq1.least) begins.order w.if-high-eq1.false w.high-is (ap pair_of_rank w.least-is)
    ] in
    record {
      first = omega (arith, begins.first, begins.even);
      order = omega (arith, ends.order);
      last = omega (arith, ends.last, old.last);
      least = ap (lesser (pair_of_rank c.if-high-eq1.least))
          (run-halved f (length nodes / 2) (λ k low high. c.requires.tree.joined k low high (omega arith) other)
          c.if-low-eq1.low c.if-high-eq1.high begins.first ends.order begins.even ends.even (omega (arith, ends.last, old.last, c.requires.tree.size, length-map nodes unpacked)))
          ∙ ends.same ∙ begins.same ∙ old.least;
    }
