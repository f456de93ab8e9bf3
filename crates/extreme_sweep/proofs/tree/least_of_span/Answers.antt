-- A node alone at an end is taken, and the others are those below their pairs.
use Rattle.std.proofs.Common.{◌≡◌, ◌∙◌, ◌-◌, ◌/◌, ◌<◌, ℕ, List, length, get_or, ap, arith}
use Rattle.std.proofs.lemmas.List.{get_or_read}
use Rattle.std.specs.Prelude.{Option, ℤ}
use Rattle.extreme_sweep.specs.declared.pair.Pair.{Pair}
use Rattle.extreme_sweep.specs.declared.node.Node.{Node}
use Rattle.extreme_sweep.specs.declared.node.Node.TheVariants.{Empty}
use Rattle.extreme_sweep.specs.Nodes.{least_below}
use Rattle.extreme_sweep.specs.Tree.{node_at}
use Rattle.extreme_sweep.proofs.PairLaws.{lesser}
use Rattle.extreme_sweep.proofs.Runs.{BeginsEven, begins-taken, begins-kept, EndsEven, ends-taken, ends-kept, run-halved}
use Rattle.extreme_sweep.proofs.tree.least_of_span.Goals as goal
use Rattle.extreme_sweep.proofs.tree.least_of_span.Goals.{then-low-eq1, else-low-eq1, then-high-eq1, else-high-eq1}

-- the lesser with what stands below a node that was read
with-read : (other : Option ℤ) (nodes : List Node) (k : ℕ) (least read taken : Option Pair) (node : Node) → k < length nodes → node ≡ get_or nodes k node
    → read ≡ least_below other node → taken ≡ lesser least read → taken ≡ lesser least (least_below other (node_at nodes k))
with-read other nodes k least read taken node inside node-is read-is taken-is =
    taken-is ∙ ap (lesser least) (read-is ∙ ap (least_below other) (get_or_read nodes k node inside node-is Empty))

pub loop-low-preserved : goal.loop-low-preserved
loop-low-preserved c =
    let nodes = c.args.nodes.now in let other = c.args.other_than in let old = c.loop-low.invariant in
    let f : ℕ → Option Pair = λ k. least_below other (node_at nodes k) in
    let begins : BeginsEven f c.loop-low.low c.loop-low.high c.if-low-eq1.low c.loop-low.least c.if-low-eq1.least = elim c.if-low-eq1.branch [
      | then-low-eq1 w ↦ begins-taken f c.loop-low.low c.loop-low.high c.if-low-eq1.low c.loop-low.least c.if-low-eq1.least c.loop-low-test.true w.if-low-eq1.true w.low-is
          (w.least-is ∙ with-read other nodes c.loop-low.low c.loop-low.least _ _ w.index-nodes-low.result (omega (arith, old.last)) w.index-nodes-low.is w.least.ensures w.lesser-least.ensures)
      | else-low-eq1 w ↦ begins-kept f c.loop-low.low c.loop-low.high c.if-low-eq1.low c.loop-low.least c.if-low-eq1.least old.first c.loop-low-test.true w.if-low-eq1.false w.low-is w.least-is
    ] in
    let ends : EndsEven f c.if-low-eq1.low c.loop-low.high c.if-high-eq1.high c.if-low-eq1.least c.if-high-eq1.least = elim c.if-high-eq1.branch [
      | then-high-eq1 w ↦ ends-taken f c.if-low-eq1.low c.loop-low.high c.if-high-eq1.high c.if-low-eq1.least c.if-high-eq1.least begins.order begins.even w.if-high-eq1.true w.high-is
          (w.least-is ∙ with-read other nodes (c.loop-low.high - 1) c.if-low-eq1.least _ _ w.index-nodes-high.result (omega (arith, old.last)) w.index-nodes-high.is w.least-then-high-eq1.ensures w.lesser-least-then-high-eq1.ensures)
      | else-high-eq1 w ↦ ends-kept f c.if-low-eq1.low c.loop-low.high c.if-high-eq1.high c.if-low-eq1.least c.if-high-eq1.least begins.order w.if-high-eq1.false w.high-is w.least-is
    ] in
    record {
      first = omega (arith, begins.first, begins.even);
      order = omega (arith, ends.order);
      last = omega (arith, ends.last, old.last);
      least = ap (lesser c.if-high-eq1.least)
          (run-halved f (length nodes / 2) (λ k low high. c.requires.tree.joined k low high (omega arith) other)
          c.if-low-eq1.low c.if-high-eq1.high begins.first ends.order begins.even ends.even (omega (arith, ends.last, old.last, c.requires.tree.size)))
          ∙ ends.same ∙ begins.same ∙ old.least;
    }
