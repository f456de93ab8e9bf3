-- Nodes and the numbers of their children.
use Rattle.std.specs.Prelude.{ℕ, Bool, true, false, List, [], ◌∷◌}
use Rattle.battle_algebra.specs.declared.plan.Node.{Node}
use Rattle.battle_algebra.specs.declared.plan.Node.TheVariants.{Empty, Extend, Agg, Split, Effect, Both}

-- a node has a child
abbrev pub has_first : Node → Bool
has_first Empty = false
has_first (Effect act way) = false
has_first node = true

-- it has two
abbrev pub has_second : Node → Bool
has_second (Split cond place taken other) = true
has_second (Both left right) = true
has_second node = false

-- a node with the numbers of its children
abbrev pub pointed : Node → ℕ → ℕ → Node
pointed Empty first second = Empty
pointed (Extend slot e place child) first second = Extend slot e place first
pointed (Agg slot call way child) first second = Agg slot call way first
pointed (Split cond place taken other) first second = Split cond place first second
pointed (Effect act way) first second = Effect act way
pointed (Both left right) first second = Both first second

-- the first of some nodes, and the others
abbrev pub head_or : List Node → Node
head_or [] = Empty
head_or (node ∷ nodes) = node

abbrev pub tail_of : List Node → List Node
tail_of [] = []
tail_of (node ∷ nodes) = nodes
