-- Nodes that make a tree, in the order of their places.
use Rattle.std.specs.Prelude.{◌≡◌, ◌/◌, List, [], ◌∷◌, ◌++◌, length, map}
use Rattle.nearest_tree.specs.declared.node.Node.{Node}
use Rattle.nearest_tree.specs.declared.point.NearPoint.{NearPoint}
use Rattle.nearest_tree.specs.Marks.{StandsFor}

-- the points of nodes
abbrev pub points_of : List Node → List NearPoint
points_of nodes = map (λ node. node.point) nodes

-- in the middle stands the root, whose mark stands for the points of all; before it stands a tree, and behind it another
pub data IsTree : List Node → Type 0 where
  no_node : IsTree []
  a_root : (before behind : List Node) (root : Node) → length before ≡ length (before ++ root ∷ behind) / 2
      → StandsFor root.mark (points_of (before ++ root ∷ behind)) → IsTree before → IsTree behind → IsTree (before ++ root ∷ behind)

-- the nodes of a tree of these points were put behind others
pub record AddsTree (old new : List Node) (points : List NearPoint) : Type 0 where
  pub tree : List Node
  pub is_tree : IsTree tree
  pub points_are : points_of tree ≡ points
  pub added : new ≡ old ++ tree
