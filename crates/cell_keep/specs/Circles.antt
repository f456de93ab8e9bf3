-- Circles, and sums over the points in them.
use Rattle.std.specs.Prelude.{◌+◌, ℤ, pos, ◌+ℤ◌, Bool, ◌&&◌, List, [], ◌∷◌, filter, length}
use Rattle.sgl_values.specs.Distance.{is_in_circle, squared_distance}
use Rattle.cell_keep.specs.declared.point.Group.{Group}
use Rattle.cell_keep.specs.declared.point.KeepPoint.{KeepPoint}
use Rattle.cell_keep.specs.declared.point.Sums.{Sums}
use Rattle.cell_keep.specs.Grid.{is_same_group}

-- a point of the group within the radius of (x, y), the edge included
abbrev pub is_within : (x y r : ℤ) → Group → KeepPoint → Bool
is_within x y r group point = is_same_group point.group group && is_in_circle r (squared_distance x y point.x point.y)

-- the exact sum of the weights of points
abbrev pub weight_of : List KeepPoint → ℤ
weight_of [] = pos 0
weight_of (point ∷ points) = point.weight +ℤ weight_of points

-- how many points there are, and the sum of their weights
abbrev pub sums_of : List KeepPoint → Sums
sums_of points = record { count = length points; sum = weight_of points }

-- the count and the sum of the points within a circle
abbrev pub sums_within : (x y r : ℤ) → Group → List KeepPoint → Sums
sums_within x y r group points = sums_of (filter (is_within x y r group) points)

-- two counts and two sums as one
abbrev pub joined : Sums → Sums → Sums
joined a b = record { count = a.count + b.count; sum = a.sum +ℤ b.sum }
