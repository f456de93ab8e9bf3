-- The nodes of trees that stand one behind the other.
use Rattle.std.specs.Prelude.{ℕ, ◌+◌, List, [], ◌∷◌, ◌++◌}
use Rattle.battle_algebra.specs.Tree.{Tree, size, numbered}
use Rattle.battle_algebra.specs.declared.plan.Node.{Node}

-- their nodes in preorder; the first root has this number
abbrev pub numbered_all : List Tree → ℕ → List Node
numbered_all [] at = []
numbered_all (tree ∷ trees) at = numbered tree at ++ numbered_all trees (at + size tree)
