-- Laws of the nearest of points.
use Rattle.std.specs.Prelude.{◌≡◌, ℤ, List, [], Option, Some, None, map, filter}
use Rattle.std.specs.List.Sorted.{IsPermutation}
use Rattle.sgl_values.specs.Laws.{IsLeast}
use Rattle.nearest_tree.specs.declared.near.Near.{Near}
use Rattle.nearest_tree.specs.declared.point.NearPoint.{NearPoint}
use Rattle.nearest_tree.specs.Nearest.{near_cmp, is_other_than, near_of, nearest_of}

-- the nearest is the same for the same points in any order
abbrev pub NearestIgnoresOrder : Type 0
NearestIgnoresOrder = (x y : ℤ) (other : Option ℤ) (points others : List NearPoint)
    → IsPermutation points others → nearest_of x y other points ≡ nearest_of x y other others

-- the nearest is that of a point whose group is not the given one, and none of these is below it
abbrev pub NearestIsLeast : Type 0
NearestIsLeast = (x y : ℤ) (other : Option ℤ) (points : List NearPoint) (near : Near)
    → nearest_of x y other points ≡ Some near → IsLeast near_cmp (map (near_of x y) (filter (is_other_than other) points)) near

-- there is a nearest where there is a point whose group is not the given one
abbrev pub NoNearestIsNone : Type 0
NoNearestIsNone = (x y : ℤ) (other : Option ℤ) (points : List NearPoint)
    → nearest_of x y other points ≡ None → filter (is_other_than other) points ≡ []
