-- The frames of a task: a row each, by its number from 0 to 63, with the values of its slots.
use Rattle.std.specs.Prelude.{ℕ, ◌+◌, ◌≡◌, not, Bool, true, List, [], ◌∷◌, ◌++◌, map, filter, drop, slice_index_or}
use Rattle.std.specs.List.{range_with_len}
use Rattle.sgl_values.specs.declared.fault.Val.{Val}
use Rattle.sgl_values.specs.declared.item.Item.{Item}
use Rattle.sgl_lanes.specs.Lanes.{has}
use Rattle.plan_executor.specs.Numbered.{numbered_all}
use Rattle.battle_algebra.specs.Fit.{reads_fit, sets_once}
use Rattle.battle_algebra.specs.Meaning.{Frame, tree_items, reached}
use Rattle.battle_algebra.specs.Reads.{sets_only}
use Rattle.battle_algebra.specs.Tree.{Tree, size}
use Rattle.battle_algebra.specs.declared.plan.Node.{Node}

-- the values of the slots of each row
abbrev pub Slots : Type 0
Slots = ℕ → List Val

-- a row with its slots
abbrev pub with_slots : (ℕ → Frame) → Slots → ℕ → Frame
with_slots base slots k = record (base k) { slots = slots k }

-- the frames of these rows
abbrev pub frames : (ℕ → Frame) → Slots → List ℕ → List Frame
frames base slots rows = map (with_slots base slots) rows

-- ---- sets of rows

-- the numbers of all rows
unfoldable pub all_rows : List ℕ
all_rows = range_with_len 0 64

-- the rows of a set, rising
unfoldable pub members : ℕ → List ℕ
members mask = filter (has mask) all_rows

-- the set of a node
abbrev pub mask_at : List ℕ → ℕ → ℕ
mask_at masks node = slice_index_or masks node 0

-- ---- what is still to come

-- a subtree that is still to come, and the slots that are set above it
pub record Entry : Type 0 where
  pub tree : Tree
  pub set : ℕ → Bool

abbrev pub trees : List Entry → List Tree
trees [] = []
trees (e ∷ es) = e.tree ∷ trees es

-- the items of the subtrees to come, of which the first has this number
abbrev pub pending : (ℕ → Frame) → Slots → List ℕ → List Entry → ℕ → List Item
pending base slots masks [] at = []
pending base slots masks (e ∷ es) at =
    tree_items e.tree (frames base slots (members (mask_at masks at))) ++ pending base slots masks es (at + size e.tree)

-- the frames that reach their nodes
abbrev pub pending_reach : (ℕ → Frame) → Slots → List ℕ → List Entry → ℕ → List ℕ
pending_reach base slots masks [] at = []
pending_reach base slots masks (e ∷ es) at =
    reached e.tree (frames base slots (members (mask_at masks at))) ++ pending_reach base slots masks es (at + size e.tree)

-- the tree sets none of the slots that are set above
abbrev pub sets_none_of : Tree → (ℕ → Bool) → Type 0
sets_none_of tree set = sets_only tree (λ slot. not (set slot)) ≡ true

-- the tree reads what is set above or in it, and sets each slot once
pub record Fits (entry : Entry) : Type 0 where
  pub reads : reads_fit entry.tree entry.set ≡ true
  pub once : sets_once entry.tree ≡ true
  pub free : sets_none_of entry.tree entry.set

-- it sets nothing that is set above those that come later
abbrev pub Clear : Tree → List Entry → Type 0
Clear tree [] = Unit {0}
Clear tree (e ∷ es) = sets_none_of tree e.set × Clear tree es

abbrev pub Valid : List Entry → Type 0
Valid [] = Unit {0}
Valid (e ∷ es) = Fits e × (Clear e.tree es × Valid es)

-- the items are those given and those to come, in order, and the counts of frames too
pub record Running (base : ℕ → Frame) (nodes : List Node) (whole : List Item) (counts : List ℕ) (at : ℕ) (masks : List ℕ) (slots : Slots) (given : List Item) : Type 0 where
  pub entries : List Entry
  pub are : drop at nodes ≡ numbered_all (trees entries) at
  pub valid : Valid entries
  pub items : given ++ pending base slots masks entries at ≡ whole
  pub reach : drop at counts ≡ pending_reach base slots masks entries at
