-- With the leaf a node joins those below it; where it did already, so did those above it.
use Rattle.std.proofs.Common.{◌≡◌, ◌∙◌, ◌/◌, ◌<◌, length, map, refl, subst, sym, ap, arith}
use Rattle.std.proofs.lemmas.List.{drop-set-lt, get_or_read, length-map, map-set}
use Rattle.extreme_sweep.specs.Nodes.{Joins}
use Rattle.extreme_sweep.specs.Ranks.{unpacked}
use Rattle.extreme_sweep.specs.Tree.{node_at, IsShortOf, IsTreeBut}
use Rattle.extreme_sweep.proofs.Mending.{mend-node, short-above, whole-tree, Joins-same}
use Rattle.extreme_sweep.proofs.Packing.{node-unpacked, packed-read, packed-set, read-with, sound-unpacked}
use Rattle.extreme_sweep.proofs.rank_tree.join_up.Goals as goal

pub joined-node-requires-clause-left : goal.joined-node-requires-clause-left
joined-node-requires-clause-left c =
    let old = c.loop-at.invariant in
    packed-read c.loop-at.nodes.items c.loop-at.at c.index.result.now (omega (arith, old.inside, old.others.size, length-map c.loop-at.nodes.items unpacked)) c.index.ensures old.packed

pub loop-at-preserved : goal.loop-at-preserved
loop-at-preserved c =
    let nodes = c.loop-at.nodes.items in let at = c.loop-at.at in let old = c.loop-at.invariant in let node = c.joined-node.result in let leaf = c.args.leaf.now in
    let size = length-map nodes unpacked in
    let inside : at < length nodes = omega (arith, old.others.size, old.inside, size) in
    let in-row : at < length (map unpacked nodes) = omega (arith, inside, size) in
    let written = map-set unpacked nodes at node in
    let with : Joins (node_at (map unpacked nodes) at) (unpacked leaf) (unpacked node) =
    read-with nodes at c.index.result.now leaf node inside c.index.ensures old.packed c.requires.leaf c.joined-node.ensures.packed c.joined-node.ensures.joins in
    record {
      inside = omega (arith, old.inside);
      packed = packed-set nodes at node inside old.packed c.joined-node.ensures.packed;
      others = subst (IsTreeBut (at / 2) c.args.leaves) (sym written)
          (mend-node c.args.leaves at (map unpacked nodes) (unpacked node) in-row c.loop-at-test.true old.others (sound-unpacked node c.joined-node.ensures.packed)
          (λ other. with other ∙ old.short c.loop-at-test.true other));
      short = λ low. subst (λ l. IsShortOf (unpacked leaf) l (at / 2)) (sym written)
          (short-above c.args.leaves at (map unpacked nodes) (unpacked node) in-row (unpacked leaf) low (old.others.joined (at / 2) low (omega (arith, old.inside)) (omega (arith, low))) with);
      leaves = drop-set-lt c.args.leaves nodes at node old.inside ∙ old.leaves;
    }

pub returns-then-is_same-clause-tree : goal.returns-then-is_same-clause-tree
returns-then-is_same-clause-tree c =
    let nodes = c.loop-at.nodes.items in let at = c.loop-at.at in let old = c.loop-at.invariant in let node = c.joined-node.result in
    let inside : at < length nodes = omega (arith, old.others.size, old.inside, length-map nodes unpacked) in
    let same : c.index-in-loop-at.result.now ≡ node = c.if-is_same.ensures in
    let is : node_at (map unpacked nodes) at ≡ unpacked node =
    node-unpacked nodes at ∙ ap unpacked (sym (get_or_read nodes at c.index-in-loop-at.result.now inside c.index-in-loop-at.ensures _) ∙ same) in
    let with = read-with nodes at c.index.result.now c.args.leaf.now node inside c.index.ensures old.packed c.requires.leaf c.joined-node.ensures.packed c.joined-node.ensures.joins in
    whole-tree c.args.leaves at (map unpacked nodes) old.others (Joins-same _ _ (unpacked node) _ _ _ refl refl is (λ other. with other ∙ old.short c.loop-at-test.true other))
