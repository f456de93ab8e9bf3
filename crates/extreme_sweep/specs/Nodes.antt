-- What a node of the tree keeps of the entries below it.
use Rattle.std.specs.Prelude.{◌≡◌, ◌≢◌, ℤ, false, Option, Some, None, if◌then◌else◌}
use Rattle.std.specs.Option.{option_map}
use Rattle.std.specs.Ordering.{int_eq, is_gt}
use Rattle.sgl_values.specs.Least.{lesser_of}
use Rattle.extreme_sweep.specs.declared.pair.Pair.{Pair}
use Rattle.extreme_sweep.specs.declared.pair.Entry.{Entry}
use Rattle.extreme_sweep.specs.declared.node.Node.{Node}
use Rattle.extreme_sweep.specs.declared.node.Node.TheVariants.{Empty, Single, Double}
use Rattle.extreme_sweep.specs.Pairs.{pair_cmp, is_other_than}

-- the entry, where its group is not the given one
abbrev pub only_other_than : Option ℤ → Entry → Option Entry
only_other_than other entry = if is_other_than other entry then Some entry else None

-- the least entry below a node whose group is not the given one
abbrev pub entry_below : Option ℤ → Node → Option Entry
entry_below other Empty = None
entry_below other (Single entry) = only_other_than other entry
entry_below other (Double first second) = if is_other_than other first then Some first else Some second

-- its pair
abbrev pub least_below : Option ℤ → Node → Option Pair
least_below other node = option_map (λ entry. entry.pair) (entry_below other node)

-- the entry with the lesser pair of two that may be there, and of equals the first
abbrev pub lesser_entry : Option Entry → Option Entry → Option Entry
lesser_entry None b = b
lesser_entry (Some x) None = Some x
lesser_entry (Some x) (Some y) = if is_gt (pair_cmp x.pair y.pair) then Some y else Some x

-- the second entry is of another group, and not below the first
abbrev pub IsSound : Node → Type 0
IsSound Empty = Unit {0}
IsSound (Single entry) = Unit {0}
IsSound (Double first second) = (int_eq second.group first.group ≡ false) × (is_gt (pair_cmp first.pair second.pair) ≡ false)

-- neither entry of a node has this pair
abbrev pub Lacks : Node → Pair → Type 0
Lacks Empty pair = Unit {0}
Lacks (Single entry) pair = entry.pair ≢ pair
Lacks (Double first second) pair = (first.pair ≢ pair) × (second.pair ≢ pair)

-- the node with this least entry, and this least one of another group
abbrev pub node_of : Entry → Option Entry → Node
node_of first None = Single first
node_of first (Some second) = Double first second

-- the node of a single place
abbrev pub leaf_of : Option Entry → Node
leaf_of None = Empty
leaf_of (Some entry) = Single entry

-- below the third node stands what stands below the other two
abbrev pub Joins : Node → Node → Node → Type 0
Joins left right node = (other : Option ℤ) → least_below other node ≡ lesser_of pair_cmp (least_below other left) (least_below other right)
