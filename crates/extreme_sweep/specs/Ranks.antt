-- Entries that are named by their ranks: the number of an entry among all of them, by rising pair.
use Rattle.std.specs.Prelude.{◌≡◌, ℕ, ◌<◌, ◌≤◌, nat_eq, nat_lt, min, Bool, ◌||◌, ℤ, pos, ◌+ℤ◌, List, Option, Some, None, IfSome, map, length, slice_get, slice_index_or, if◌then◌else◌}
use Rattle.std.specs.Option.{option_map}
use Rattle.std.specs.Ordering.{int_eq}
use Rattle.sgl_values.specs.Least.{lesser_of}
use Rattle.extreme_sweep.specs.declared.pair.Pair.{Pair}
use Rattle.extreme_sweep.specs.declared.pair.Entry.{Entry}
use Rattle.extreme_sweep.specs.declared.node.Node.{Node}
use Rattle.extreme_sweep.specs.declared.node.Node.TheVariants.{Empty, Single, Double}
use Rattle.extreme_sweep.specs.declared.rank_node.RankNode.{RankNode}
use Rattle.extreme_sweep.specs.declared.rank_tree.RankTree.{RankTree}
use Rattle.extreme_sweep.specs.Nodes.{leaf_of, least_below}
use Rattle.extreme_sweep.specs.Pairs.{pair_cmp}
use Rattle.extreme_sweep.specs.Tree.{IsLongBy, IsTournament}
use Rattle.sgl_values.specs.declared.limit.TheConstants.{ROWS_MAX}

-- in the place of a rank
abbrev pub no_rank : ℕ
no_rank = 4294967295

-- a rank as a pair: pairs of ranks are ordered as ranks are
abbrev pub rank_pair : ℕ → Pair
rank_pair rank = record { value = pos rank; key = 0 }

-- the same, where there is a rank
abbrev pub pair_of_rank : ℕ → Option Pair
pair_of_rank rank = if nat_lt rank no_rank then Some (rank_pair rank) else None

-- a rank with its group
abbrev pub ranked : ℤ → ℕ → Entry
ranked group rank = record { pair = rank_pair rank; group = group }

-- the same, where it is the rank of one of these groups
abbrev pub rank_entry : List ℤ → ℕ → Option Entry
rank_entry groups rank = option_map (λ group. ranked group rank) (slice_get groups rank)

abbrev pub rank_entries : List ℤ → List ℕ → List (Option Entry)
rank_entries groups ranks = map (rank_entry groups) ranks

-- a rank with the group that stands at its place, where there is a rank
abbrev pub placed_entry : ℤ → ℕ → Option Entry
placed_entry group rank = if nat_lt rank no_rank then Some (ranked group rank) else None

-- the groups that stand place by place are those of the ranks that stand there
pub record ArePlaced (groups by_place : List ℤ) (places : List ℕ) : Type 0 where
  pub count : length by_place ≡ length places
  pub each : (place : ℕ) → place < length places
      → rank_entry groups (slice_index_or places place 0) ≡ placed_entry (slice_index_or by_place place (pos 0)) (slice_index_or places place 0)

-- the lesser of a least rank and of another one with its group, which counts where that is not the given one
abbrev pub lesser_counted : ℕ → ℕ → ℤ → Option ℤ → Option Pair
lesser_counted least rank group other = lesser_of pair_cmp (pair_of_rank least) (least_below other (leaf_of (placed_entry group rank)))

-- the least rank below a node whose group is not the given one
abbrev pub rank_below : Option ℤ → RankNode → ℕ
rank_below None node = node.first
rank_below (Some group) node = if int_eq node.group group then node.second else node.first

-- whether a node keeps a rank
abbrev pub keeps_rank : RankNode → ℕ → Bool
keeps_rank node rank = nat_eq node.first rank || nat_eq node.second rank

-- the ranks of a node are in order
abbrev pub IsPacked : RankNode → Type 0
IsPacked node = node.first ≤ node.second

abbrev pub rank_node_at : List RankNode → ℕ → RankNode
rank_node_at nodes k = slice_index_or nodes k record { first = no_rank; second = no_rank; group = pos 0 }

abbrev pub ArePacked : List RankNode → Type 0
ArePacked nodes = (k : ℕ) → IsPacked (rank_node_at nodes k)

-- below the third node stands what stands below the other two
abbrev pub JoinsRanks : RankNode → RankNode → RankNode → Type 0
JoinsRanks left right node = (other : Option ℤ) → rank_below other node ≡ min (rank_below other left) (rank_below other right)

-- the node that keeps entries in the place of ranks. The group of the second one is not kept: any other than the first's will do
abbrev pub unpacked : RankNode → Node
unpacked node =
    if nat_lt node.first no_rank
    then (if nat_lt node.second no_rank then Double (ranked node.group node.first) (ranked (node.group +ℤ pos 1) node.second) else Single (ranked node.group node.first))
    else Empty

-- below node k stands what stands below the two nodes below it, and the entry, if any, of a rank that has left them
pub record HasLeft (rank : ℕ) (nodes : List Node) (k : ℕ) : Type 0 where
  pub entry : Option Entry
  pub named : IfSome entry (λ e. e.pair ≡ rank_pair rank)
  pub long : IsLongBy (leaf_of entry) nodes k

-- what every tree of ranks meets, where the groups of the ranks are given, and the same place by place
pub record IsRankTree (groups by_place : List ℤ) (tree : RankTree) : Type 0 where
  pub few : length groups ≤ ROWS_MAX
  pub placed : ArePlaced groups by_place tree.places.items
  pub packed : ArePacked tree.nodes.items
  pub tournament : IsTournament tree.blocks (rank_entries groups tree.places.items) (map unpacked tree.nodes.items)

-- a rank is of this group, which is that of the place, and the place is empty
pub record CanEnter (groups by_place : List ℤ) (places : List ℕ) (place rank : ℕ) (group : ℤ) : Type 0 where
  pub entry : rank_entry groups rank ≡ Some (ranked group rank)
  pub at : slice_index_or by_place place (pos 0) ≡ group
  pub empty : slice_index_or (rank_entries groups places) place None ≡ None
