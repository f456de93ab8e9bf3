use Rattle.std.proofs.Common.{◌∙◌, ◌+◌, ◌/◌, List, map, ap, subst, sym, arith}
use Rattle.std.proofs.lemmas.List.{length-map, map-set}
use Rattle.std.specs.Prelude.{Option}
use Rattle.extreme_sweep.specs.declared.pair.Entry.{Entry}
use Rattle.extreme_sweep.specs.Nodes.{leaf_of}
use Rattle.extreme_sweep.specs.Ranks.{no_rank, rank_entry, rank_entries, unpacked, ArePlaced, HasLeft}
use Rattle.extreme_sweep.specs.Tree.{StandsFor, block_at, IsTreeBut}
use Rattle.extreme_sweep.proofs.Mending.{long-above, set-leaf}
use Rattle.extreme_sweep.proofs.Packing.{entry-pair, sound-unpacked}
use Rattle.extreme_sweep.proofs.Grouping.{placed-left}
use Rattle.extreme_sweep.proofs.Writing.{in-nodes, left, taken, unchanged, written}
use Rattle.extreme_sweep.proofs.rank_tree.RankTree.leave.Goals as goal

pub mend-requires-clause-others : goal.mend-requires-clause-others
mend-requires-clause-others c =
    let t = c.args.self.now in let old = c.requires.tree.1 in let at = t.blocks + c.args.place / 16 in let node = c.node_of_block.result in
    let inside = in-nodes c.requires.tree.0 t.blocks t.places.items t.nodes.items old.tournament c.args.place c.requires.place in
    subst (IsTreeBut (at / 2) t.blocks) (sym (map-set unpacked t.nodes.items at node))
    (set-leaf t.blocks at (map unpacked t.nodes.items) (unpacked node) (omega (arith, inside, length-map t.nodes.items unpacked)) (omega arith) old.tournament.tree (sound-unpacked node c.node_of_block.ensures.packed))

pub mend-requires-clause-long : goal.mend-requires-clause-long
mend-requires-clause-long c = λ low.
    let t = c.args.self.now in let groups = c.requires.tree.0 in let old = c.requires.tree.1 in let i = c.args.place in let at = t.blocks + i / 16 in let places = t.places.items in let nodes = t.nodes.items in
    let node = c.node_of_block.result in let left = c.index-left.result.now in
    let row = old.tournament.tree in
    let inside = in-nodes groups t.blocks places nodes old.tournament i c.requires.place in
    let size = length-map nodes unpacked in
    let stands = subst (λ (l : List (Option Entry)). StandsFor (unpacked node) (block_at l (i / 16))) (ap (rank_entries groups) c.as_slice.ensures.value ∙ map-set (rank_entry groups) places i no_rank)
    (c.node_of_block.ensures.stands groups (subst (ArePlaced groups c.args.groups.now) (sym c.as_slice.ensures.value) (placed-left groups c.args.groups.now places old.placed i c.requires.place (omega (arith, old.few))))) in
    subst (λ l. HasLeft left l (at / 2)) (sym (map-set unpacked nodes at node)) (record {
      entry = rank_entry groups left;
      named = entry-pair groups left;
      long = long-above t.blocks at (map unpacked nodes) (unpacked node) (omega (arith, inside, size)) (leaf_of (rank_entry groups left)) low
          (row.joined (at / 2) low (omega (arith, inside, size, row.size)) (omega (arith, low)))
          (taken groups t.blocks places nodes old.tournament i c.requires.place left node old.few c.index-left.ensures stands);
    })

pub returns-then-keeps-clause-tree : goal.returns-then-keeps-clause-tree
returns-then-keeps-clause-tree c = λ groups old.
    let t = c.args.self.now in let i = c.args.place in let places = t.places.items in let node = c.node_of_block.result in
    let stands = subst (λ (l : List (Option Entry)). StandsFor (unpacked node) (block_at l (i / 16))) (ap (rank_entries groups) c.as_slice.ensures.value ∙ map-set (rank_entry groups) places i no_rank)
    (c.node_of_block.ensures.stands groups (subst (ArePlaced groups c.args.groups.now) (sym c.as_slice.ensures.value) (placed-left groups c.args.groups.now places old.placed i c.requires.place (omega (arith, old.few))))) in
    record {
      few = old.few;
      placed = placed-left groups c.args.groups.now places old.placed i c.requires.place (omega (arith, old.few));
      packed = c.mend.ensures.packed;
      tournament = written groups t.blocks places t.nodes.items old.tournament i c.requires.place no_rank node c.mend.new.nodes.items stands c.mend.ensures.tree c.mend.ensures.leaves;
    }

pub returns-else-keeps-clause-tree : goal.returns-else-keeps-clause-tree
returns-else-keeps-clause-tree c = λ groups old.
    let t = c.args.self.now in let i = c.args.place in let places = t.places.items in let nodes = t.nodes.items in
    let read = c.index.result.now in
    record {
      few = old.few;
      placed = placed-left groups c.args.groups.now places old.placed i c.requires.place (omega (arith, old.few));
      packed = old.packed;
      tournament = unchanged groups t.blocks places nodes old.tournament i c.requires.place no_rank read c.index.ensures
          (left groups t.blocks places nodes old.tournament i c.requires.place read c.index.ensures c.index-left.result.now old.few c.index-left.ensures (sym c.if-keeps.ensures));
    }
