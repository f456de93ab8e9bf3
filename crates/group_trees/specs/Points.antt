-- The rows of a world as points of the plane, by group.
use Rattle.std.specs.Prelude.{ℤ, List, filter, map}
use Rattle.std.specs.List.Sorted.{IsPermutation}
use Rattle.sgl_values.specs.World.{Row}
use Rattle.sgl_typed.specs.Value.{attribute}
use Rattle.nearest_tree.specs.declared.point.NearPoint.{NearPoint}
use Rattle.row_groups.specs.Groups.{Grouping, number_of}
use Rattle.row_groups.specs.Keys.{along, has_key}
use Rattle.row_groups.specs.Listed.{list_if}
use Rattle.group_trees.specs.declared.plane.Plane.{Plane}

-- a row as a point with its key, and with the value by which points are left out
abbrev pub point_of : Plane → Row → NearPoint
point_of plane row = record { x = attribute plane.x row; y = attribute plane.y row; key = row.key; group = along plane.apart row }

-- the plane, the groups, and the points of each group
pub record Planted : Type 0 where
  pub plane : Plane
  pub groups : Grouping
  pub lists : List (List NearPoint)

-- the points of the group with this key
abbrev pub points_under : Planted → List ℤ → List NearPoint
points_under trees key = list_if trees.lists (number_of trees.groups key)

-- under each key, also one that no row has, the points of the rows with that key
abbrev pub AreTrees : Planted → List Row → Type 0
AreTrees trees rows = (key : List ℤ) → IsPermutation (map (point_of trees.plane) (filter (has_key trees.groups.attrs key) rows)) (points_under trees key)
