-- Ranks are ordered as their pairs, and a node of ranks keeps what the node of their entries keeps.
use Rattle.std.proofs.Common.{◌≡◌, ◌∙◌, ◌+◌, ◌-◌, ◌*◌, ◌<◌, ◌≤◌, ℕ, zero, suc, ℤ, pos, negsuc, ◌+ℤ◌, Bool, true, false, cond, not, List, ◌∷◌, length, get_or, set, take, drop, replicate, map, refl, sym, ap, subst, ⊎_elim, arith, min}
use Rattle.std.proofs.Math.ListN.{get_or-map}
use Rattle.std.proofs.lemmas.Bool.{cases_eq, cases_lt, lt-ltb, le-ltb}
use Rattle.std.proofs.lemmas.Bool.Decides.{nat_tests}
use Rattle.std.proofs.lemmas.Grind.{get_or-set_at}
use Rattle.std.proofs.lemmas.Int.{ints}
use Rattle.std.proofs.lemmas.List.{drop-map, get_or_read, get_or-set_other, length-drop, take_min}
use Rattle.std.proofs.lemmas.Option.{slice_get_past}
use Rattle.std.specs.Option.{option_map}
use Rattle.std.specs.Ordering.{int_eq, is_gt, ordering_then}
use Rattle.std.specs.List.{take-map}
use Rattle.std.specs.Prelude.{Option, Some, None, IfSome, nat_lt, slice_get, slice_range}
use Rattle.std.specs.declared.cmp.Ordering.TheVariants.{Less, Equal, Greater}
use Rattle.sgl_values.proofs.LeastLaws.{int-same}
use Rattle.extreme_sweep.specs.declared.pair.Pair.{Pair}
use Rattle.extreme_sweep.specs.declared.pair.Entry.{Entry}
use Rattle.extreme_sweep.specs.declared.node.Node.{Node}
use Rattle.extreme_sweep.specs.declared.node.Node.TheVariants.{Empty, Single, Double}
use Rattle.extreme_sweep.specs.declared.rank_node.RankNode.{RankNode}
use Rattle.extreme_sweep.specs.Nodes.{leaf_of, least_below, IsSound, Joins, Lacks}
use Rattle.extreme_sweep.specs.Pairs.{pair_cmp, is_other_than}
use Rattle.extreme_sweep.specs.Ranks.{no_rank, rank_pair, pair_of_rank, ranked, rank_entry, rank_entries, placed_entry, lesser_counted, rank_below, rank_node_at, ArePacked, IsPacked, JoinsRanks, unpacked}
use Rattle.extreme_sweep.specs.Tree.{node_at, block_at}
use Rattle.extreme_sweep.proofs.Blocks.{replicate-at}
use Rattle.extreme_sweep.proofs.Mending.{Joins-same}
use Rattle.extreme_sweep.proofs.PairLaws.{pair_laws, lesser}

one-way : (a b : ℕ) → nat_lt a b ≡ true → nat_lt b a ≡ false
one-way a b less = grind (arith, nat_tests)

pub above : (a b : ℕ) → is_gt (pair_cmp (rank_pair a) (rank_pair b)) ≡ nat_lt b a
above a b = by (nat_lt a b) (nat_lt b a) (one-way a b)
  where
    by : (p q : Bool) → (p ≡ true → q ≡ false) → is_gt (ordering_then (cond p Less (cond q Greater Equal)) Equal) ≡ q
    by true true h = sym (h refl)
    by true false h = refl
    by false true h = refl
    by false false h = refl

beyond : (a b n : ℕ) → nat_lt a n ≡ true → nat_lt b n ≡ false → b ≤ a → ⊥
beyond a b n inside outside order = grind (arith, nat_tests)

-- the lesser rank has the lesser pair
pub pair-min : (a b : ℕ) → pair_of_rank (min a b) ≡ lesser (pair_of_rank a) (pair_of_rank b)
pair-min a b = ⊎_elim
    (λ less. let is : min a b ≡ b = omega arith in ap pair_of_rank is ∙ second less (nat_lt a no_rank) (nat_lt b no_rank) refl refl)
    (λ most. let is : min a b ≡ a = omega arith in ap pair_of_rank is ∙ first most (nat_lt a no_rank) (nat_lt b no_rank) refl refl)
    (cases_lt b a)
  where
    second : b < a → (x y : Bool) → nat_lt a no_rank ≡ x → nat_lt b no_rank ≡ y
        → cond y (Some (rank_pair b)) None ≡ lesser (cond x (Some (rank_pair a)) None) (cond y (Some (rank_pair b)) None)
    second less true true e f = sym (ap (λ (g : Bool). cond g (Some (rank_pair b)) (Some (rank_pair a))) (above a b ∙ lt-ltb b a less))
    second less true false e f = absurd (beyond a b no_rank e f (omega arith))
    second less false true e f = refl
    second less false false e f = refl

    first : a ≤ b → (x y : Bool) → nat_lt a no_rank ≡ x → nat_lt b no_rank ≡ y
        → cond x (Some (rank_pair a)) None ≡ lesser (cond x (Some (rank_pair a)) None) (cond y (Some (rank_pair b)) None)
    first most true true e f = sym (ap (λ (g : Bool). cond g (Some (rank_pair b)) (Some (rank_pair a))) (above a b ∙ le-ltb b a most))
    first most true false e f = refl
    first most false true e f = absurd (beyond b a no_rank f e most)
    first most false false e f = refl

module _ (node : RankNode) where
  abbrev head : Entry
  head = ranked node.group node.first

  abbrev next : Entry
  next = ranked (node.group +ℤ pos 1) node.second

  abbrev shape : Bool → Bool → Node
  shape x y = cond x (cond y (Double head next) (Single head)) Empty

  module _ (packed : IsPacked node) where
    below-other : (g : ℤ) (x y : Bool) → nat_lt node.first no_rank ≡ x → nat_lt node.second no_rank ≡ y → least_below (Some g) (shape x y) ≡ pair_of_rank (cond (int_eq node.group g) node.second node.first)
    below-other g true true e f = by (int_eq node.group g)
      where
        by : (s : Bool) → option_map (λ (entry : Entry). entry.pair) (cond (not s) (Some head) (Some next)) ≡ pair_of_rank (cond s node.second node.first)
        by true = sym (ap (λ (t : Bool). cond t (Some (rank_pair node.second)) None) f)
        by false = sym (ap (λ (t : Bool). cond t (Some (rank_pair node.first)) None) e)
    below-other g true false e f = by (int_eq node.group g)
      where
        by : (s : Bool) → option_map (λ (entry : Entry). entry.pair) (cond (not s) (Some head) None) ≡ pair_of_rank (cond s node.second node.first)
        by true = sym (ap (λ (t : Bool). cond t (Some (rank_pair node.second)) None) f)
        by false = sym (ap (λ (t : Bool). cond t (Some (rank_pair node.first)) None) e)
    below-other g false true e f = absurd (beyond node.second node.first no_rank f e packed)
    below-other g false false e f = by (int_eq node.group g)
      where
        by : (s : Bool) → None ≡ pair_of_rank (cond s node.second node.first)
        by true = sym (ap (λ (t : Bool). cond t (Some (rank_pair node.second)) None) f)
        by false = sym (ap (λ (t : Bool). cond t (Some (rank_pair node.first)) None) e)

    pub below-unpacked : (other : Option ℤ) → least_below other (unpacked node) ≡ pair_of_rank (rank_below other node)
    below-unpacked None = by (nat_lt node.first no_rank) (nat_lt node.second no_rank)
      where
        by : (x y : Bool) → least_below None (shape x y) ≡ cond x (Some (rank_pair node.first)) None
        by true true = refl
        by true false = refl
        by false y = refl
    below-unpacked (Some g) = below-other g (nat_lt node.first no_rank) (nat_lt node.second no_rank) refl refl

    apart : (z : ℤ) → int_eq (z +ℤ pos 1) z ≡ false
    apart z = by (int_eq (z +ℤ pos 1) z) refl
      where
        by : (b : Bool) → int_eq (z +ℤ pos 1) z ≡ b → int_eq (z +ℤ pos 1) z ≡ false
        by true e = let same : z +ℤ pos 1 ≡ z = int-same (z +ℤ pos 1) z e in absurd (omega (arith, ints, same))
        by false e = e

    pub sound-unpacked : IsSound (unpacked node)
    sound-unpacked = by (nat_lt node.first no_rank) (nat_lt node.second no_rank)
      where
        by : (x y : Bool) → IsSound (shape x y)
        by true true = (apart node.group, above node.first node.second ∙ le-ltb node.second node.first packed)
        by true false = tt
        by false y = tt

  pub lacks-unpacked : (rank : ℕ) → (node.first ≡ rank → ⊥) → (node.second ≡ rank → ⊥) → Lacks (unpacked node) (rank_pair rank)
  lacks-unpacked rank first second = by (nat_lt node.first no_rank) (nat_lt node.second no_rank)
    where
      rank_of : ℤ → ℕ
      rank_of (pos n) = n
      rank_of (negsuc n) = 0

      by : (x y : Bool) → Lacks (shape x y) (rank_pair rank)
      by true true = ((λ e. first (ap (λ (p : Pair). rank_of p.value) e)), (λ e. second (ap (λ (p : Pair). rank_of p.value) e)))
      by true false = λ e. first (ap (λ (p : Pair). rank_of p.value) e)
      by false y = tt

pub joins-unpacked : (left right node : RankNode) → IsPacked left → IsPacked right → IsPacked node → JoinsRanks left right node → Joins (unpacked left) (unpacked right) (unpacked node)
joins-unpacked left right node l r n joins other =
    below-unpacked node n other ∙ ap pair_of_rank (joins other) ∙ pair-min (rank_below other left) (rank_below other right)
    ∙ (λ i. lesser (sym (below-unpacked left l other) i) (sym (below-unpacked right r other) i))

pub node-unpacked : (nodes : List RankNode) (k : ℕ) → node_at (map unpacked nodes) k ≡ unpacked (rank_node_at nodes k)
node-unpacked nodes k = get_or-map unpacked nodes k (record { first = no_rank; second = no_rank; group = pos 0 })

-- ---- nodes in a row

pub packed-read : (nodes : List RankNode) (k : ℕ) (node : RankNode) → k < length nodes → node ≡ get_or nodes k node → ArePacked nodes → IsPacked node
packed-read nodes k node inside is packed = subst IsPacked (sym (get_or_read nodes k node inside is _)) (packed k)

pub packed-set : (nodes : List RankNode) (at : ℕ) (node : RankNode) → at < length nodes → ArePacked nodes → IsPacked node → ArePacked (set nodes at node)
packed-set nodes at node inside packed is k = ⊎_elim
    (λ same. subst IsPacked (sym (get_or-set_at nodes at k node _ same inside)) is)
    (λ other. subst IsPacked (sym (get_or-set_other nodes at k node _ other)) (packed k))
    (cases_eq k at)

-- a node that joins two that were read
pub read-joined : (nodes : List RankNode) (at : ℕ) (left right node : RankNode) → 2 * at + 1 < length nodes → left ≡ get_or nodes (2 * at) left → right ≡ get_or nodes (2 * at + 1) right
    → ArePacked nodes → IsPacked node → JoinsRanks left right node → Joins (node_at (map unpacked nodes) (2 * at)) (node_at (map unpacked nodes) (2 * at + 1)) (unpacked node)
read-joined nodes at left right node inside left-is right-is packed is joins =
    let l : left ≡ rank_node_at nodes (2 * at) = get_or_read nodes (2 * at) left (omega arith) left-is _ in
    let r : right ≡ rank_node_at nodes (2 * at + 1) = get_or_read nodes (2 * at + 1) right inside right-is _ in
    Joins-same (unpacked (rank_node_at nodes (2 * at))) (unpacked (rank_node_at nodes (2 * at + 1))) (unpacked node) _ _ _ (node-unpacked nodes (2 * at)) (node-unpacked nodes (2 * at + 1)) refl
    (joins-unpacked (rank_node_at nodes (2 * at)) (rank_node_at nodes (2 * at + 1)) node (packed (2 * at)) (packed (2 * at + 1)) is
    (λ other. joins other ∙ (λ i. min (rank_below other (l i)) (rank_below other (r i)))))

-- a node that joins one that was read with a leaf
pub read-with : (nodes : List RankNode) (at : ℕ) (read leaf node : RankNode) → at < length nodes → read ≡ get_or nodes at read
    → ArePacked nodes → IsPacked leaf → IsPacked node → JoinsRanks read leaf node → Joins (node_at (map unpacked nodes) at) (unpacked leaf) (unpacked node)
read-with nodes at read leaf node inside is packed leaf-packed node-packed joins =
    Joins-same (unpacked read) (unpacked leaf) (unpacked node) _ _ _ (node-unpacked nodes at ∙ ap unpacked (sym (get_or_read nodes at read inside is _))) refl refl
    (joins-unpacked read leaf node (packed-read nodes at read inside is packed) leaf-packed node-packed joins)

-- ---- ranks with their groups

module _ (groups : List ℤ) where
  pub no-entry : (rank : ℕ) → length groups ≤ rank → rank_entry groups rank ≡ None
  no-entry rank past = ap (option_map (λ group. ranked group rank)) (slice_get_past groups rank past)

  pub entry-pair : (rank : ℕ) → IfSome (rank_entry groups rank) (λ e. e.pair ≡ rank_pair rank)
  entry-pair rank = by (slice_get groups rank)
    where
      by : (group : Option ℤ) → IfSome (option_map (λ g. ranked g rank) group) (λ e. e.pair ≡ rank_pair rank)
      by None = tt
      by (Some g) = refl

pub placed-there : (group : ℤ) (rank : ℕ) → rank < no_rank → placed_entry group rank ≡ Some (ranked group rank)
placed-there group rank inside = ap (λ (t : Bool). cond t (Some (ranked group rank)) None) (lt-ltb rank no_rank inside)

-- a rank that is not below the least so far does not count
pub counted-above : (least rank : ℕ) (group : ℤ) (other : Option ℤ) → least ≤ rank → pair_of_rank least ≡ lesser_counted least rank group other
counted-above least rank group other order = by (nat_lt rank no_rank) refl
  where
    kept : nat_lt rank no_rank ≡ true → (b : Bool) → pair_of_rank least ≡ lesser (pair_of_rank least) (option_map (λ (entry : Entry). entry.pair) (cond b (Some (ranked group rank)) None))
    kept inside false = sym (pair_laws.none-right (pair_of_rank least))
    kept inside true =
        let is : min least rank ≡ least = omega arith in
        let here : pair_of_rank rank ≡ Some (rank_pair rank) = ap (λ (t : Bool). cond t (Some (rank_pair rank)) None) inside in
        sym (ap (lesser (pair_of_rank least)) (sym here) ∙ sym (pair-min least rank) ∙ ap pair_of_rank is)

    by : (b : Bool) → nat_lt rank no_rank ≡ b → pair_of_rank least ≡ lesser (pair_of_rank least) (least_below other (leaf_of (cond b (Some (ranked group rank)) None)))
    by false is = sym (pair_laws.none-right (pair_of_rank least))
    by true is = kept is (is_other_than other (ranked group rank))

-- ---- parts of a row of ranks

pub part-entries : (groups : List ℤ) (ranks : List ℕ) (low high : ℕ) → rank_entries groups (slice_range ranks low high) ≡ slice_range (rank_entries groups ranks) low high
part-entries groups ranks low high = sym (ap (take (high - low)) (drop-map (rank_entry groups) low ranks) ∙ take-map (rank_entry groups) (high - low) (drop low ranks))

-- the ranks of a block, as far as there are any
pub block-entries : (groups : List ℤ) (ranks : List ℕ) (block end : ℕ) → end ≡ min (length ranks) (block * 16 + 16)
    → rank_entries groups (slice_range ranks (block * 16) end) ≡ block_at (rank_entries groups ranks) block
block-entries groups ranks block end is =
    let low : block * 16 ≡ 16 * block = omega arith in
    let count : end - block * 16 ≡ min ((block * 16 + 16) - block * 16) (length (drop (block * 16) ranks)) = omega (arith, is, length-drop (block * 16) ranks) in
    ap (rank_entries groups) (ap (λ n. take n (drop (block * 16) ranks)) count ∙ take_min ((block * 16 + 16) - block * 16) (drop (block * 16) ranks))
    ∙ part-entries groups ranks (block * 16) (block * 16 + 16) ∙ (λ i. slice_range (rank_entries groups ranks) (low i) (low i + 16))

pub no-entries : (groups : List ℤ) (n : ℕ) → length groups ≤ no_rank → rank_entries groups (replicate n no_rank) ≡ replicate n None
no-entries groups zero few = refl
no-entries groups (suc n) few = (λ i. no-entry groups no_rank few i ∷ no-entries groups n few i)

pub no-nodes : (n : ℕ) → map unpacked (replicate n (record { first = no_rank; second = no_rank; group = pos 0 })) ≡ replicate n Empty
no-nodes zero = refl
no-nodes (suc n) = ap (λ l. Empty ∷ l) (no-nodes n)

pub packed-none : (nodes : List RankNode) (n : ℕ) → nodes ≡ replicate n (record { first = no_rank; second = no_rank; group = pos 0 }) → ArePacked nodes
packed-none nodes n is k = subst (λ l. IsPacked (rank_node_at l k)) (sym is) (subst IsPacked (sym (replicate-at n k _)) (omega arith))
