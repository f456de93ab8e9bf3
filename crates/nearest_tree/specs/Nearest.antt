-- Points by their distance from a place, and the nearest of them.
use Rattle.std.specs.Prelude.{ℤ, Bool, true, not, List, Option, Some, None, map, filter, if◌then◌else◌}
use Rattle.std.specs.Ordering.{nat_cmp, int_cmp, int_eq, on, then_cmp}
use Rattle.std.specs.declared.cmp.Ordering.{Ordering}
use Rattle.sgl_values.specs.Distance.{squared_distance}
use Rattle.sgl_values.specs.Least.{least_of}
use Rattle.nearest_tree.specs.declared.near.Near.{Near}
use Rattle.nearest_tree.specs.declared.point.NearPoint.{NearPoint}

-- by distance, and then by key
abbrev pub near_cmp : Near → Near → Ordering
near_cmp = then_cmp (on (λ near. near.distance) int_cmp) (on (λ near. near.key) nat_cmp)

-- whether a point is of another group than the given one; each is where none is given
abbrev pub is_other_than : Option ℤ → NearPoint → Bool
is_other_than None point = true
is_other_than (Some group) point = not (int_eq point.group group)

-- how far a point is from (x, y), with its key
abbrev pub near_of : ℤ → ℤ → NearPoint → Near
near_of x y point = record { distance = squared_distance x y point.x point.y; key = point.key }

-- the least distance and key of the points whose group is not the given one
abbrev pub nearest_of : ℤ → ℤ → Option ℤ → List NearPoint → Option Near
nearest_of x y other points = least_of near_cmp (map (near_of x y) (filter (is_other_than other) points))

-- those of a point, where its group is not the given one
abbrev pub near_other_than : ℤ → ℤ → Option ℤ → NearPoint → Option Near
near_other_than x y other point = if is_other_than other point then Some (near_of x y point) else None
