-- Nodes that are made tidy one by one.
use Rattle.std.specs.Prelude.{ℕ, ◌+◌, ◌≡◌, Bool, true, false, List, ◌∷◌, ◌++◌, Option, Some, None}
use Rattle.plan_rewrite.specs.Bare.{bare, bare_all, branches, rest_if, root, sizes, top_if}
use Rattle.battle_algebra.specs.Nodes.{has_first, has_second}
use Rattle.battle_algebra.specs.Normal.{literal}
use Rattle.plan_rewrite.specs.Rewrite.{placed, parted, joined, tidied}
use Rattle.battle_algebra.specs.Tree.{Source, Tree, Nothing, Setting, Parted, Acting, Joined, node_of}
use Rattle.plan_rewrite.specs.declared.grove.Grove.{Grove}
use Rattle.battle_algebra.specs.declared.plan.Node.{Node}
use Rattle.battle_algebra.specs.declared.plan.Node.TheVariants.{Empty, Extend, Agg, Split, Effect, Both}
use Rattle.plan_rewrite.specs.declared.task.Task.{Task}
use Rattle.plan_rewrite.specs.declared.task.Task.TheVariants.{Leave, Lower, Choose, Join}

-- what is to be done at a split whose condition has this truth, where it has one
abbrev pub split_task : Option Bool → Task
split_task None = Leave
split_task (Some b) = Choose b

abbrev pub task_of : Node → Task
task_of Empty = Leave
task_of (Extend slot e place child) = Lower slot
task_of (Agg slot call way child) = Lower slot
task_of (Split cond place taken other) = split_task (literal cond)
task_of (Effect act way) = Leave
task_of (Both left right) = Join

abbrev pub is_empty : Node → Bool
is_empty Empty = true
is_empty node = false

-- the tree with a tidy root, where all below is tidy
abbrev pub tidy_root : Tree → Tree
tidy_root Nothing = Nothing
tidy_root (Setting slot source below) = placed slot source below
tidy_root (Parted cond place taken other) = parted (literal cond) cond place taken other
tidy_root (Acting act way) = Acting act way
tidy_root (Joined left right) = joined left right

abbrev pub chosen : Bool → Tree → Tree → Tree
chosen true taken other = taken
chosen false taken other = other

-- trees, one after the other, and the sizes of them
abbrev pub Holds : Grove → List Tree → Type 0
Holds grove ts = (grove.nodes ≡ bare_all ts) × (grove.sizes ≡ sizes ts)

-- the sizes when a node is put on its children
abbrev pub sizes_over : Node → List ℕ → List ℕ
sizes_over node ns =
    (1 + (top_if (has_first node) ns + top_if (has_second node) (rest_if (has_first node) ns)))
    ∷ rest_if (has_second node) (rest_if (has_first node) ns)

-- a node that sets a slot goes down into the first tree, or out
pub record Lowers (old new : Grove) (node : Node) (slot : ℕ) : Type 0 where
  pub is : (source : Source) (below : Tree) (ts : List Tree) → node ≡ node_of slot source 0 → Holds old (below ∷ ts) → Holds new (placed slot source below ∷ ts)

-- one of the first two trees is left
pub record Chooses (old new : Grove) (truth : Bool) : Type 0 where
  pub is : (taken other : Tree) (ts : List Tree) → Holds old (taken ∷ other ∷ ts) → Holds new (chosen truth taken other ∷ ts)

-- the first two trees are joined
pub record Joins (old new : Grove) (node : Node) : Type 0 where
  pub is : (left right : Tree) (ts : List Tree) → node ≡ Both 0 0 → Holds old (left ∷ right ∷ ts) → Holds new (joined left right ∷ ts)

-- a node is put on its children
pub record Keeps (old new : Grove) (node : Node) : Type 0 where
  pub is : (t : Tree) (ts : List Tree) → node ≡ root t → Holds old (branches t ++ ts) → Holds new (t ∷ ts)

-- the same, and the root is made tidy
pub record Tidies (old new : Grove) (node : Node) : Type 0 where
  pub is : (t : Tree) (ts : List Tree) → node ≡ root t → Holds old (branches t ++ ts) → Holds new (tidy_root t ∷ ts)

-- the nodes of a tree are those of the tidy one
pub record IsTidied (old new : List Node) : Type 0 where
  pub is : (t : Tree) → old ≡ bare t → new ≡ bare (tidied t)
