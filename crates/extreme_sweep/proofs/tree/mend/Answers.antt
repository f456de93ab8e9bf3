-- A node is joined anew, or was right already; then so were those above it.
use Rattle.std.proofs.Common.{◌≡◌, ◌∙◌, ◌+◌, ◌*◌, ◌<◌, ℕ, List, length, get_or, refl, sym, arith}
use Rattle.std.proofs.lemmas.List.{drop-set-lt, get_or_read}
use Rattle.extreme_sweep.specs.declared.node.Node.{Node}
use Rattle.extreme_sweep.specs.declared.node.Node.TheVariants.{Empty}
use Rattle.extreme_sweep.specs.Nodes.{Joins}
use Rattle.extreme_sweep.specs.Tree.{node_at}
use Rattle.extreme_sweep.proofs.Mending.{mend-node, whole-tree, Joins-same}
use Rattle.extreme_sweep.proofs.tree.mend.Goals as goal

read-joins : (nodes : List Node) (at : ℕ) (left right node : Node) → 2 * at + 1 < length nodes → left ≡ get_or nodes (2 * at) left → right ≡ get_or nodes (2 * at + 1) right
    → Joins left right node → Joins (node_at nodes (2 * at)) (node_at nodes (2 * at + 1)) node
read-joins nodes at left right node inside left-is right-is joins = Joins-same left right node _ _ _
    (sym (get_or_read nodes (2 * at) left (omega arith) left-is Empty)) (sym (get_or_read nodes (2 * at + 1) right inside right-is Empty)) refl joins

pub loop-at-preserved : goal.loop-at-preserved
loop-at-preserved c =
    let nodes = c.loop-at.nodes.items in let at = c.loop-at.at in let old = c.loop-at.invariant in
    let inside : 2 * at + 1 < length nodes = omega (arith, old.others.size, old.inside) in
    record {
      inside = omega (arith, old.inside);
      others = mend-node c.args.leaves at nodes c.joined-node.result (omega (arith, inside)) c.loop-at-test.true old.others c.joined-node.ensures.sound
          (read-joins nodes at c.index.result.now c.index-in-loop-at.result.now c.joined-node.result inside c.index.ensures c.index-in-loop-at.ensures c.joined-node.ensures.joins);
      leaves = drop-set-lt c.args.leaves nodes at c.joined-node.result old.inside ∙ old.leaves;
    }

pub returns-then-is_same-clause-tree : goal.returns-then-is_same-clause-tree
returns-then-is_same-clause-tree c =
    let nodes = c.loop-at.nodes.items in let at = c.loop-at.at in let old = c.loop-at.invariant in
    let inside : 2 * at + 1 < length nodes = omega (arith, old.others.size, old.inside) in
    let same : c.index-in-loop-at-2.result.now ≡ c.joined-node.result = c.if-is_same.ensures in
    let is : node_at nodes at ≡ c.joined-node.result = sym (get_or_read nodes at c.index-in-loop-at-2.result.now (omega (arith, inside)) c.index-in-loop-at-2.ensures Empty) ∙ same in
    whole-tree c.args.leaves at nodes old.others (Joins-same _ _ c.joined-node.result _ _ _ refl refl is
    (read-joins nodes at c.index.result.now c.index-in-loop-at.result.now c.joined-node.result inside c.index.ensures c.index-in-loop-at.ensures c.joined-node.ensures.joins))
