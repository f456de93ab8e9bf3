use Rattle.std.proofs.Common.{◌≡◌, ◌∙◌, ◌+◌, ◌/◌, ◌<◌, List, length, get_or, set, drop, ap, subst, sym, arith}
use Rattle.std.proofs.lemmas.List.{get_or_read, set-get_or, set-set}
use Rattle.std.specs.Prelude.{Option, None}
use Rattle.extreme_sweep.specs.declared.node.Node.{Node}
use Rattle.extreme_sweep.specs.declared.node.Node.TheVariants.{Empty}
use Rattle.extreme_sweep.specs.declared.pair.Entry.{Entry}
use Rattle.extreme_sweep.specs.Tree.{node_at, StandsFor, block_at}
use Rattle.extreme_sweep.proofs.Blocks.{tournament-set}
use Rattle.extreme_sweep.proofs.Mending.{set-leaf}
use Rattle.extreme_sweep.proofs.tree.TourneyTree.set.Goals as goal

pub node_after-node-requires-clause-before : goal.node_after-node-requires-clause-before
node_after-node-requires-clause-before c =
    let t = c.self.inside in let old = c.self.invariant in let i = c.args.i in let places = t.places.items in
    let inside : i < length places = omega (arith, c.requires, ap length c.self.view_is) in
    let left : c.index-left.result.now ≡ get_or places i None = get_or_read places i c.index-left.result.now inside c.index-left.ensures None in
    let before : set c.as_slice.result.now i c.index-left.result.now ≡ places =
    ap (λ l. set l i c.index-left.result.now) c.as_slice.ensures.value ∙ set-set places i c.args.entry c.index-left.result.now ∙ ap (set places i) left ∙ set-get_or places i None in
    let at : t.blocks + i / 16 < length t.nodes.items = omega (arith, inside, old.covered, old.tree.size) in
    let node = get_or_read t.nodes.items (t.blocks + i / 16) c.index.result.now at c.index.ensures Empty in
    subst (λ (n : Node). StandsFor n (block_at (set c.as_slice.result.now i c.index-left.result.now) (i / 16))) (sym node)
    (subst (λ (l : List (Option Entry)). StandsFor (node_at t.nodes.items (t.blocks + i / 16)) (block_at l (i / 16))) (sym before)
    (old.leaves (i / 16) (omega (arith, inside, old.covered))))

pub mend-requires-clause-others : goal.mend-requires-clause-others
mend-requires-clause-others c =
    let t = c.self.inside in let old = c.self.invariant in
    let inside : t.blocks + c.args.i / 16 < length t.nodes.items = omega (arith, c.requires, ap length c.self.view_is, old.covered, old.tree.size) in
    set-leaf t.blocks (t.blocks + c.args.i / 16) t.nodes.items c.node_after-node.result inside (omega arith) old.tree c.node_after-node.ensures.sound

pub invariant_of-self : goal.invariant_of-self
invariant_of-self c =
    let t = c.self.inside in let places = t.places.items in
    let stands : StandsFor c.node_after-node.result (block_at (set places c.args.i c.args.entry) (c.args.i / 16)) =
    subst (λ (l : List (Option Entry)). StandsFor c.node_after-node.result (block_at l (c.args.i / 16))) c.as_slice.ensures.value c.node_after-node.ensures in
    tournament-set t.blocks places t.nodes.items c.self.invariant c.args.i c.args.entry c.node_after-node.result c.mend.new.nodes.items
    (omega (arith, c.requires, ap length c.self.view_is)) stands c.mend.ensures.tree c.mend.ensures.leaves

pub invariant_of-self-else-not-is_same : goal.invariant_of-self-else-not-is_same
invariant_of-self-else-not-is_same c =
    let t = c.self.inside in let places = t.places.items in let old = c.self.invariant in let i = c.args.i in
    let inside : i < length places = omega (arith, c.requires, ap length c.self.view_is) in
    let at : t.blocks + i / 16 < length t.nodes.items = omega (arith, inside, old.covered, old.tree.size) in
    let stands : StandsFor c.node_after-node.result (block_at (set places i c.args.entry) (i / 16)) =
    subst (λ (l : List (Option Entry)). StandsFor c.node_after-node.result (block_at l (i / 16))) c.as_slice.ensures.value c.node_after-node.ensures in
    let here : node_at t.nodes.items (t.blocks + i / 16) ≡ c.node_after-node.result =
    sym (get_or_read t.nodes.items (t.blocks + i / 16) c.index-2.result.now at c.index-2.ensures Empty) ∙ c.if-not-is_same.ensures in
    let same : set t.nodes.items (t.blocks + i / 16) c.node_after-node.result ≡ t.nodes.items =
    ap (set t.nodes.items (t.blocks + i / 16)) (sym here) ∙ set-get_or t.nodes.items (t.blocks + i / 16) Empty in
    tournament-set t.blocks places t.nodes.items old i c.args.entry c.node_after-node.result t.nodes.items inside stands old.tree (ap (drop t.blocks) (sym same))
