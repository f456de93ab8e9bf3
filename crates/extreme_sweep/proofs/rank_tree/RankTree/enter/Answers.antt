use Rattle.std.proofs.Common.{◌≡◌, ◌∙◌, ◌+◌, ◌/◌, ℤ, List, ap, map, set, subst, sym, arith}
use Rattle.std.proofs.lemmas.Int.{to_z-of_z}
use Rattle.std.proofs.lemmas.List.{length-map, map-set}
use Rattle.std.specs.Prelude.{Some}
use mir.Val.{SFits}
use mir.Syntax.{w64}
use Rattle.extreme_sweep.specs.Nodes.{leaf_of}
use Rattle.extreme_sweep.specs.Ranks.{ranked, rank_entry, rank_entries, unpacked, CanEnter, IsRankTree}
use Rattle.extreme_sweep.specs.Tree.{StandsFor, block_at, IsShortOf, IsTreeBut}
use Rattle.extreme_sweep.proofs.Mending.{set-leaf, short-above}
use Rattle.extreme_sweep.proofs.Packing.{packed-read, read-with, sound-unpacked}
use Rattle.extreme_sweep.proofs.Grouping.{entry-placed, placed-set}
use Rattle.extreme_sweep.proofs.Writing.{entered, in-nodes, unchanged, written}
use Rattle.extreme_sweep.proofs.rank_tree.RankTree.enter.Goals as goal
use Rattle.extreme_sweep.proofs.rank_tree.RankTree.enter.Goals.{After-joined-node}

pub join_up-requires-clause-others : goal.join_up-requires-clause-others
join_up-requires-clause-others c =
    let t = c.args.self.now in let old = c.requires.tree.1.1 in let at = t.blocks + c.args.place / 16 in let node = c.joined-node.result in
    let inside = in-nodes c.requires.tree.0 t.blocks t.places.items t.nodes.items old.tournament c.args.place c.requires.place in
    subst (IsTreeBut (at / 2) t.blocks) (sym (map-set unpacked t.nodes.items at node))
    (set-leaf t.blocks at (map unpacked t.nodes.items) (unpacked node) (omega (arith, inside, length-map t.nodes.items unpacked)) (omega arith) old.tournament.tree (sound-unpacked node c.joined-node.ensures.packed))

pub join_up-requires-clause-short : goal.join_up-requires-clause-short
join_up-requires-clause-short c = λ low.
    let t = c.args.self.now in let old = c.requires.tree.1.1 in let at = t.blocks + c.args.place / 16 in let nodes = t.nodes.items in let node = c.joined-node.result in let leaf = c.single-leaf.result in
    let inside = in-nodes c.requires.tree.0 t.blocks t.places.items nodes old.tournament c.args.place c.requires.place in
    let size = length-map nodes unpacked in
    let row = old.tournament.tree in
    subst (λ l. IsShortOf (unpacked leaf) l (at / 2)) (sym (map-set unpacked nodes at node))
    (short-above t.blocks at (map unpacked nodes) (unpacked node) (omega (arith, inside, size)) (unpacked leaf) low (row.joined (at / 2) low (omega (arith, inside, size, row.size)) (omega (arith, low)))
    (read-with nodes at c.index.result.now leaf node inside c.index.ensures old.packed c.single-leaf.ensures.packed c.joined-node.ensures.packed c.joined-node.ensures.joins))

-- what stands behind the node of the block of the place
stands-behind : (c : After-joined-node) (groups by_place : List ℤ) → IsRankTree groups by_place c.args.self.now → CanEnter groups by_place c.args.self.now.places.items c.args.place c.args.rank c.args.group
    → StandsFor (unpacked c.joined-node.result) (block_at (set (rank_entries groups c.args.self.now.places.items) c.args.place (rank_entry groups c.args.rank)) (c.args.place / 16))
stands-behind c groups by_place old can =
    let t = c.args.self.now in let i = c.args.place in let places = t.places.items in let nodes = t.nodes.items in
    let read = c.index.result.now in let node = c.joined-node.result in
    let fits : SFits w64 c.args.group = c.ranges.group in
    let leaf : unpacked c.single-leaf.result ≡ leaf_of (Some (ranked c.args.group c.args.rank)) = simp to_z-of_z at c.single-leaf.ensures.leaf in
    let inside = in-nodes groups t.blocks places nodes old.tournament i c.requires.place in
    entered groups t.blocks places nodes old.tournament i c.requires.place read c.index.ensures c.args.rank c.single-leaf.result node can.empty
    (packed-read nodes (t.blocks + i / 16) read inside c.index.ensures old.packed) c.single-leaf.ensures.packed c.joined-node.ensures.packed
    (leaf ∙ ap leaf_of (sym can.entry)) c.joined-node.ensures.joins

pub returns-then-not-is_same-clause-tree : goal.returns-then-not-is_same-clause-tree
returns-then-not-is_same-clause-tree c = λ groups by_place old can.
    let t = c.args.self.now in
    let stands = stands-behind (goal.at.returns-then-not-is_same-clause-tree c).After-joined-node groups by_place old can in
    record {
      few = old.few;
      placed = placed-set groups by_place c.args.self.now.places.items old.placed c.args.place c.args.rank c.requires.place (entry-placed groups by_place c.args.self.now.places.items c.args.place c.args.rank c.args.group c.requires.rank can);
      packed = c.join_up.ensures.packed;
      tournament = written groups t.blocks t.places.items t.nodes.items old.tournament c.args.place c.requires.place c.args.rank c.joined-node.result c.join_up.new.nodes.items stands c.join_up.ensures.tree c.join_up.ensures.leaves;
    }

pub returns-else-not-is_same-clause-tree : goal.returns-else-not-is_same-clause-tree
returns-else-not-is_same-clause-tree c = λ groups by_place old can.
    let t = c.args.self.now in let places = t.places.items in
    let stands = stands-behind (goal.at.returns-else-not-is_same-clause-tree c).After-joined-node groups by_place old can in
    let same : c.joined-node.result ≡ c.index-2.result.now = sym c.if-not-is_same.ensures in
    record {
      few = old.few;
      placed = placed-set groups by_place c.args.self.now.places.items old.placed c.args.place c.args.rank c.requires.place (entry-placed groups by_place c.args.self.now.places.items c.args.place c.args.rank c.args.group c.requires.rank can);
      packed = old.packed;
      tournament = unchanged groups t.blocks places t.nodes.items old.tournament c.args.place c.requires.place c.args.rank c.index-2.result.now c.index-2.ensures
          (subst (λ n. StandsFor (unpacked n) (block_at (set (rank_entries groups places) c.args.place (rank_entry groups c.args.rank)) (c.args.place / 16))) same stands);
    }
