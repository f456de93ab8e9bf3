-- A node is joined anew, or does not keep the rank that has left; then neither do those above it.
use Rattle.std.proofs.Common.{◌∙◌, ◌+◌, ◌*◌, ◌/◌, ◌<◌, length, map, subst, sym, ap, arith}
use Rattle.std.proofs.lemmas.List.{drop-set-lt, length-map, map-set}
use Rattle.extreme_sweep.specs.Nodes.{leaf_of, least_below, Joins}
use Rattle.extreme_sweep.specs.Ranks.{unpacked, HasLeft}
use Rattle.extreme_sweep.specs.Tree.{node_at, IsTreeBut}
use Rattle.extreme_sweep.proofs.Mending.{long-above, mend-node, whole-tree}
use Rattle.extreme_sweep.proofs.PairLaws.{lesser}
use Rattle.extreme_sweep.proofs.Packing.{packed-read, packed-set, read-joined, sound-unpacked}
use Rattle.extreme_sweep.proofs.Writing.{joins-left}
use Rattle.extreme_sweep.proofs.rank_tree.mend.Goals as goal

pub joined-requires-clause-left : goal.joined-requires-clause-left
joined-requires-clause-left c =
    let old = c.loop-at.invariant in
    packed-read c.loop-at.nodes.items (2 * c.loop-at.at) c.index-in-loop-at.result.now (omega (arith, old.inside, old.others.size, length-map c.loop-at.nodes.items unpacked)) c.index-in-loop-at.ensures old.packed

pub joined-requires-clause-right : goal.joined-requires-clause-right
joined-requires-clause-right c =
    let old = c.loop-at.invariant in
    packed-read c.loop-at.nodes.items (2 * c.loop-at.at + 1) c.index-in-loop-at-2.result.now (omega (arith, old.inside, old.others.size, length-map c.loop-at.nodes.items unpacked)) c.index-in-loop-at-2.ensures old.packed

pub loop-at-preserved : goal.loop-at-preserved
loop-at-preserved c =
    let nodes = c.loop-at.nodes.items in let at = c.loop-at.at in let old = c.loop-at.invariant in let node = c.joined.result in
    let size = length-map nodes unpacked in
    let inside : 2 * at + 1 < length nodes = omega (arith, old.others.size, old.inside, size) in
    let in-row : at < length (map unpacked nodes) = omega (arith, inside, size) in
    let written = map-set unpacked nodes at node in
    let has = old.long c.loop-at-test.true in
    let joins : Joins (node_at (map unpacked nodes) (2 * at)) (node_at (map unpacked nodes) (2 * at + 1)) (unpacked node) =
    read-joined nodes at c.index-in-loop-at.result.now c.index-in-loop-at-2.result.now node inside c.index-in-loop-at.ensures c.index-in-loop-at-2.ensures old.packed c.joined.ensures.packed c.joined.ensures.joins in
    let without : Joins (unpacked node) (leaf_of has.entry) (node_at (map unpacked nodes) at) =
    λ other. has.long other ∙ ap (λ p. lesser p (least_below other (leaf_of has.entry))) (sym (joins other)) in
    record {
      inside = omega (arith, old.inside);
      packed = packed-set nodes at node (omega (arith, inside)) old.packed c.joined.ensures.packed;
      others = subst (IsTreeBut (at / 2) c.args.leaves) (sym written)
          (mend-node c.args.leaves at (map unpacked nodes) (unpacked node) in-row c.loop-at-test.true old.others (sound-unpacked node c.joined.ensures.packed) joins);
      long = λ low. subst (λ l. HasLeft c.args.left l (at / 2)) (sym written) (record {
        entry = has.entry;
        named = has.named;
        long = long-above c.args.leaves at (map unpacked nodes) (unpacked node) in-row (leaf_of has.entry) low (old.others.joined (at / 2) low (omega (arith, old.inside)) (omega (arith, low))) without;
      });
      leaves = drop-set-lt c.args.leaves nodes at node old.inside ∙ old.leaves;
    }

pub returns-then-not-keeps-clause-tree : goal.returns-then-not-keeps-clause-tree
returns-then-not-keeps-clause-tree c =
    let nodes = c.loop-at.nodes.items in let at = c.loop-at.at in let old = c.loop-at.invariant in
    whole-tree c.args.leaves at (map unpacked nodes) old.others
    (joins-left nodes at c.args.left c.index.result.now (omega (arith, old.others.size, old.inside, length-map nodes unpacked)) c.index.ensures (sym c.if-not-keeps.ensures) (old.long c.loop-at-test.true))
