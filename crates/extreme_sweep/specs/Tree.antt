-- The nodes of the tree, in one row: below node k stand the nodes 2k and 2k + 1, and the last half are the leaves. Each leaf is
-- the node of a block of 16 places.
use Rattle.std.specs.Prelude.{◌≡◌, ℕ, zero, suc, ◌+◌, ◌*◌, ◌<◌, ◌≤◌, ℤ, List, Option, None, length, slice_index_or, slice_range, slice_set}
use Rattle.sgl_values.specs.Least.{lesser_of}
use Rattle.extreme_sweep.specs.declared.pair.Pair.{Pair}
use Rattle.extreme_sweep.specs.declared.pair.Entry.{Entry}
use Rattle.extreme_sweep.specs.declared.node.Node.{Node}
use Rattle.extreme_sweep.specs.declared.node.Node.TheVariants.{Empty}
use Rattle.extreme_sweep.specs.Nodes.{IsSound, least_below, Joins}
use Rattle.extreme_sweep.specs.Pairs.{pair_cmp, least_other_than}
use Rattle.extreme_sweep.specs.Places.{entries_of}

abbrev pub node_at : List Node → ℕ → Node
node_at nodes k = slice_index_or nodes k Empty

-- node k joins the two below it
abbrev pub JoinsAt : List Node → ℕ → Type 0
JoinsAt nodes k = Joins (node_at nodes (2 * k)) (node_at nodes (2 * k + 1)) (node_at nodes k)

-- what stands below node k, and this leaf with it, stands below the two nodes below node k
abbrev pub IsShortOf : Node → List Node → ℕ → Type 0
IsShortOf leaf nodes k = (other : Option ℤ)
    → lesser_of pair_cmp (least_below other (node_at nodes k)) (least_below other leaf) ≡ lesser_of pair_cmp (least_below other (node_at nodes (2 * k))) (least_below other (node_at nodes (2 * k + 1)))

-- what stands below the two nodes below node k, and this leaf with it, stands below node k
abbrev pub IsLongBy : Node → List Node → ℕ → Type 0
IsLongBy leaf nodes k = (other : Option ℤ)
    → least_below other (node_at nodes k) ≡ lesser_of pair_cmp (lesser_of pair_cmp (least_below other (node_at nodes (2 * k))) (least_below other (node_at nodes (2 * k + 1)))) (least_below other leaf)

-- a row with so many leaves, of which each node but one joins those below it
pub record IsTreeBut (at leaves : ℕ) (nodes : List Node) : Type 0 where
  pub size : length nodes ≡ 2 * leaves
  pub sound : (k : ℕ) → IsSound (node_at nodes k)
  pub joined : (k : ℕ) → 0 < k → k < leaves → (k ≡ at → ⊥) → JoinsAt nodes k

-- a row of which each does; node 0 joins nothing
abbrev pub IsTree : ℕ → List Node → Type 0
IsTree = IsTreeBut 0

-- a node stands for places: the least pairs below it are theirs
pub record StandsFor (node : Node) (places : List (Option Entry)) : Type 0 where
  pub sound : IsSound node
  pub least : (other : Option ℤ) → least_below other node ≡ least_other_than other (entries_of places)

-- where a node stands for places, this other one does when at one of them an entry is replaced by another
abbrev pub Replaces : Node → Option Entry → Option Entry → Node → Type 0
Replaces node left entry other =
    (places : List (Option Entry)) (k : ℕ) → k < length places → slice_index_or places k None ≡ left → StandsFor node places → StandsFor other (slice_set places k entry)

-- the places of a block
abbrev pub block_at : List (Option Entry) → ℕ → List (Option Entry)
block_at places block = slice_range places (16 * block) (16 * block + 16)

-- what the nodes of every tournament tree meet
pub record IsTournament (blocks : ℕ) (places : List (Option Entry)) (nodes : List Node) : Type 0 where
  pub covered : length places ≤ 16 * blocks
  pub tree : IsTree blocks nodes
  pub leaves : (block : ℕ) → block < blocks → StandsFor (node_at nodes (blocks + block)) (block_at places block)

-- the least of so many pairs that may be there, from number `low` on
abbrev pub least_of_run : (ℕ → Option Pair) → ℕ → ℕ → Option Pair
least_of_run pair low zero = None
least_of_run pair low (suc count) = lesser_of pair_cmp (pair low) (least_of_run pair (low + 1) count)

-- the least pair below so many nodes, from node `low` on, whose group is not the given one
abbrev pub least_of_nodes : Option ℤ → List Node → ℕ → ℕ → Option Pair
least_of_nodes other nodes low count = least_of_run (λ k. least_below other (node_at nodes k)) low count
