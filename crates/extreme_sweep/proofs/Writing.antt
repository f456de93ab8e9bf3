-- What a write to one place of a tree of ranks leaves.
use Rattle.std.proofs.Common.{◌≡◌, ◌∙◌, ◌+◌, ◌*◌, ◌/◌, ◌<◌, ◌≤◌, ℕ, ℤ, false, List, length, get_or, set, drop, map, ap, subst, sym, arith}
use Rattle.std.proofs.lemmas.Bool.Decides.{nat_tests}
use Rattle.std.proofs.lemmas.List.{drop-map, get_or-map, get_or_read, length-map, map-set, set-get_or}
use Rattle.std.specs.Prelude.{Option, Some, None, IfSome, nat_eq, ◌||◌}
use Rattle.extreme_sweep.specs.declared.pair.Pair.{Pair}
use Rattle.extreme_sweep.specs.declared.pair.Entry.{Entry}
use Rattle.extreme_sweep.specs.declared.node.Node.{Node}
use Rattle.extreme_sweep.specs.declared.rank_node.RankNode.{RankNode}
use Rattle.extreme_sweep.specs.Nodes.{leaf_of, least_below, IsSound, Joins, Lacks}
use Rattle.extreme_sweep.specs.Ranks.{keeps_rank, no_rank, rank_pair, rank_entry, rank_entries, unpacked, HasLeft, IsPacked, JoinsRanks}
use Rattle.extreme_sweep.specs.Tree.{node_at, StandsFor, Replaces, block_at, IsLongBy, IsTree, IsTournament, JoinsAt}
use Rattle.extreme_sweep.proofs.Blocks.{block-emptied, block-set, not-missed, replaces-empty, replaces-none, replaces-other, tournament-set}
use Rattle.extreme_sweep.proofs.Packing.{entry-pair, joins-unpacked, lacks-unpacked, no-entry, node-unpacked, sound-unpacked}
use Rattle.extreme_sweep.proofs.PairLaws.{pair_laws, lesser}

lacking : (first second rank : ℕ) → (nat_eq first rank || nat_eq second rank) ≡ false → (first ≡ rank → ⊥) × (second ≡ rank → ⊥)
lacking first second rank is = grind (arith, nat_tests)

read-lacks : (read : RankNode) (rank : ℕ) → keeps_rank read rank ≡ false → Lacks (unpacked read) (rank_pair rank)
read-lacks read rank is = let apart = lacking read.first read.second rank is in lacks-unpacked read rank apart.0 apart.1

-- a node that does not keep the rank that has left joins those below it
pub joins-left : (nodes : List RankNode) (k rank : ℕ) (read : RankNode) → k < length nodes → read ≡ get_or nodes k read → keeps_rank read rank ≡ false → HasLeft rank (map unpacked nodes) k
    → JoinsAt (map unpacked nodes) k
joins-left nodes k rank read inside is not-kept has = by has.entry has.named has.long
  where
    node : Node
    node = node_at (map unpacked nodes) k

    lacks : Lacks node (rank_pair rank)
    lacks = subst (λ n. Lacks n (rank_pair rank)) (sym (node-unpacked nodes k ∙ ap unpacked (sym (get_or_read nodes k read inside is _)))) (read-lacks read rank not-kept)

    both : Option ℤ → Option Pair
    both other = lesser (least_below other (node_at (map unpacked nodes) (2 * k))) (least_below other (node_at (map unpacked nodes) (2 * k + 1)))

    by : (entry : Option Entry) → IfSome entry (λ e. e.pair ≡ rank_pair rank) → IsLongBy (leaf_of entry) (map unpacked nodes) k → JoinsAt (map unpacked nodes) k
    by None named long other = long other ∙ pair_laws.none-right (both other)
    by (Some e) named long other = not-missed node e other (both other) (subst (Lacks node) (sym named) lacks) (long other)

gone : (node : Node) (rank : ℕ) (left : Option Entry) → IsSound node → Lacks node (rank_pair rank) → IfSome left (λ e. e.pair ≡ rank_pair rank) → Replaces node left None node
gone node rank None sound lacks is = replaces-empty node sound
gone node rank (Some e) sound lacks is = replaces-other node e (subst (Lacks node) (sym is) lacks)

module _ (groups : List ℤ) (blocks : ℕ) (places : List ℕ) (nodes : List RankNode) (tournament : IsTournament blocks (rank_entries groups places) (map unpacked nodes)) (i : ℕ) (inside : i < length places) where
  abbrev entries : List (Option Entry)
  entries = rank_entries groups places

  abbrev at : ℕ
  at = blocks + i / 16

  abbrev after : ℕ → List (Option Entry)
  after rank = set entries i (rank_entry groups rank)

  in-entries : i < length entries
  in-entries = omega (arith, inside, length-map places (rank_entry groups))

  pub in-nodes : at < length nodes
  in-nodes = omega (arith, in-entries, tournament.covered, tournament.tree.size, length-map nodes unpacked)

  entry-at : (rank : ℕ) → rank ≡ get_or places i rank → get_or entries i None ≡ rank_entry groups rank
  entry-at rank at-place = get_or-map (rank_entry groups) places i 0 None inside ∙ ap (rank_entry groups) (sym (get_or_read places i rank inside at-place 0))

  -- the node of the block, as it was read
  module _ (read : RankNode) (is : read ≡ get_or nodes at read) where
    pub read-node : node_at (map unpacked nodes) at ≡ unpacked read
    read-node = node-unpacked nodes at ∙ ap unpacked (sym (get_or_read nodes at read in-nodes is _))

    pub read-stands : StandsFor (unpacked read) (block_at entries (i / 16))
    read-stands = subst (λ n. StandsFor n (block_at entries (i / 16))) read-node (tournament.leaves (i / 16) (omega (arith, in-entries, tournament.covered)))

    -- a rank enters where there was none, and the node joins its leaf
    pub entered : (rank : ℕ) (leaf node : RankNode) → get_or entries i None ≡ None → IsPacked read → IsPacked leaf → IsPacked node → unpacked leaf ≡ leaf_of (rank_entry groups rank) → JoinsRanks read leaf node
        → StandsFor (unpacked node) (block_at (after rank) (i / 16))
    entered rank leaf node empty read-packed leaf-packed node-packed leaf-is joins =
        let entry = rank_entry groups rank in
        let with : Joins (unpacked read) (leaf_of entry) (unpacked node) =
        subst (λ (n : Node). Joins (unpacked read) n (unpacked node)) leaf-is (joins-unpacked read leaf node read-packed leaf-packed node-packed joins) in
        block-set entries i entry (unpacked read) (unpacked node) in-entries
        (subst (λ (o : Option Entry). Replaces (unpacked read) o entry (unpacked node)) (sym empty) (replaces-none (unpacked read) (unpacked node) entry (sound-unpacked node node-packed) with))
        read-stands

    -- a rank leaves that the node does not keep
    pub left : (rank : ℕ) → length groups ≤ 65536 → rank ≡ get_or places i rank → keeps_rank read rank ≡ false → StandsFor (unpacked read) (block_at (after no_rank) (i / 16))
    left rank few at-place lacks =
        let node = unpacked read in
        let sound = read-stands.sound in
        block-set entries i (rank_entry groups no_rank) node node in-entries
        (subst (λ (o : Option Entry). Replaces node o (rank_entry groups no_rank) node) (sym (entry-at rank at-place))
        (subst (λ (o : Option Entry). Replaces node (rank_entry groups rank) o node) (sym (no-entry groups no_rank (omega (arith, few))))
        (gone node rank (rank_entry groups rank) sound (read-lacks read rank lacks) (entry-pair groups rank))))
        read-stands

  -- a rank leaves, and the node of the block is made anew
  pub taken : (rank : ℕ) (node : RankNode) → length groups ≤ 65536 → rank ≡ get_or places i rank → StandsFor (unpacked node) (block_at (after no_rank) (i / 16))
      → Joins (unpacked node) (leaf_of (rank_entry groups rank)) (node_at (map unpacked nodes) at)
  taken rank node few at-place stands =
      subst (λ (o : Option Entry). Joins (unpacked node) (leaf_of o) (node_at (map unpacked nodes) at)) (entry-at rank at-place)
      (block-emptied entries i (node_at (map unpacked nodes) at) (unpacked node) in-entries (tournament.leaves (i / 16) (omega (arith, in-entries, tournament.covered)))
      (subst (λ (o : Option Entry). StandsFor (unpacked node) (block_at (set entries i o) (i / 16))) (no-entry groups no_rank (omega (arith, few))) stands))

  -- the node of the block is written, and those above it are mended
  pub written : (rank : ℕ) (node : RankNode) (mended : List RankNode) → StandsFor (unpacked node) (block_at (after rank) (i / 16)) → IsTree blocks (map unpacked mended)
      → drop blocks mended ≡ drop blocks (set nodes at node) → IsTournament blocks (rank_entries groups (set places i rank)) (map unpacked mended)
  written rank node mended stands tree leaves =
      let same : drop blocks (map unpacked mended) ≡ drop blocks (set (map unpacked nodes) at (unpacked node)) =
      drop-map unpacked blocks mended ∙ ap (map unpacked) leaves ∙ sym (drop-map unpacked blocks (set nodes at node)) ∙ ap (drop blocks) (map-set unpacked nodes at node) in
      subst (λ (l : List (Option Entry)). IsTournament blocks l (map unpacked mended)) (sym (map-set (rank_entry groups) places i rank))
      (tournament-set blocks entries (map unpacked nodes) tournament i (rank_entry groups rank) (unpacked node) (map unpacked mended) in-entries stands tree same)

  -- the node of the block stays as it was
  pub unchanged : (rank : ℕ) (read : RankNode) → read ≡ get_or nodes at read → StandsFor (unpacked read) (block_at (after rank) (i / 16)) → IsTournament blocks (rank_entries groups (set places i rank)) (map unpacked nodes)
  unchanged rank read is stands =
      let same : set nodes at read ≡ nodes = ap (set nodes at) is ∙ set-get_or nodes at read in
      written rank read nodes stands tournament.tree (ap (drop blocks) (sym same))
