-- Nodes in preorder without the numbers of their children.
use Rattle.std.specs.Prelude.{ℕ, ◌+◌, ◌≡◌, ◌&&◌, List, [], ◌∷◌, ◌++◌, take, drop, Bool, true, false, if◌then◌else◌}
use Rattle.sgl_typed.specs.Reads.{reads_only, list_reads_only}
use Rattle.battle_algebra.specs.Normal.{stays_above}
use Rattle.battle_algebra.specs.Reads.{is_read_in}
use Rattle.battle_algebra.specs.Tree.{Tree, Nothing, Setting, Parted, Acting, Joined, size, node_of, numbered}
use Rattle.battle_algebra.specs.declared.plan.Node.{Node}
use Rattle.battle_algebra.specs.declared.plan.Node.TheVariants.{Empty, Extend, Agg, Split, Effect, Both}

-- the nodes of a tree in preorder, each with 0 for its children
abbrev pub bare : Tree → List Node
bare Nothing = Empty ∷ []
bare (Setting slot source below) = node_of slot source 0 ∷ bare below
bare (Parted cond place taken other) = Split cond place 0 0 ∷ bare taken ++ bare other
bare (Acting act way) = Effect act way ∷ []
bare (Joined left right) = Both 0 0 ∷ bare left ++ bare right

-- of trees, one after the other
abbrev pub bare_all : List Tree → List Node
bare_all [] = []
bare_all (t ∷ ts) = bare t ++ bare_all ts

-- the same with numbers, where the first root has this one
abbrev pub numbered_all : List Tree → ℕ → List Node
numbered_all [] at = []
numbered_all (t ∷ ts) at = numbered t at ++ numbered_all ts (at + size t)

abbrev pub sizes : List Tree → List ℕ
sizes [] = []
sizes (t ∷ ts) = size t ∷ sizes ts

-- ---- a stack of sizes, the top first

abbrev pub top_if : Bool → List ℕ → ℕ
top_if true (n ∷ ns) = n
top_if b ns = 0

abbrev pub rest_if : Bool → List ℕ → List ℕ
rest_if true (n ∷ ns) = ns
rest_if b ns = ns

-- the children of nodes were numbered
pub record IsNumbered (old new : List Node) : Type 0 where
  pub is : (t : Tree) → old ≡ bare t → new ≡ numbered t 0

-- ---- what a node reads, and where a node goes down to

-- each slot that a node reads passes
abbrev pub node_reads_only : Node → (ℕ → Bool) → Bool
node_reads_only Empty passes = true
node_reads_only (Extend slot e place child) passes = reads_only e passes
node_reads_only (Agg slot call way child) passes = list_reads_only call.args passes
node_reads_only (Split cond place taken other) passes = reads_only cond passes
node_reads_only (Effect act way) passes = list_reads_only act.args passes
node_reads_only (Both left right) passes = true

-- each slot that these nodes read passes
abbrev pub nodes_read_only : List Node → (ℕ → Bool) → Bool
nodes_read_only [] passes = true
nodes_read_only (node ∷ nodes) passes = node_reads_only node passes && nodes_read_only nodes passes

abbrev pub is_split : Node → Bool
is_split (Split cond place taken other) = true
is_split node = false

abbrev pub is_setting : Node → Bool
is_setting (Extend slot e place child) = true
is_setting (Agg slot call way child) = true
is_setting node = false

-- how many nodes a node that sets the slot passes on its way down
abbrev pub place_of : Tree → ℕ → ℕ
place_of (Setting other from below) slot = if stays_above (Setting other from below) slot then 0 else 1 + place_of below slot
place_of (Parted cond place taken other) slot =
    if stays_above (Parted cond place taken other) slot then 0
    else if is_read_in taken slot then 1 + place_of taken slot
    else (1 + size taken) + place_of other slot
place_of tree slot = 0

-- a list with an element more at this place
abbrev pub inserted : {A : Type 0} → ℕ → A → List A → List A
inserted at x xs = take at xs ++ x ∷ drop at xs

-- a list without these many elements from a place on
abbrev pub without : {A : Type 0} → ℕ → ℕ → List A → List A
without from count xs = take from xs ++ drop (from + count) xs

-- ---- a tree by its root and what is below

abbrev pub root : Tree → Node
root Nothing = Empty
root (Setting slot source below) = node_of slot source 0
root (Parted cond place taken other) = Split cond place 0 0
root (Acting act way) = Effect act way
root (Joined left right) = Both 0 0

abbrev pub branches : Tree → List Tree
branches Nothing = []
branches (Setting slot source below) = below ∷ []
branches (Parted cond place taken other) = taken ∷ other ∷ []
branches (Acting act way) = []
branches (Joined left right) = left ∷ right ∷ []
