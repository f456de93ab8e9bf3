-- The least keys of points.
use Rattle.std.specs.Prelude.{◌≡◌, ◌≤◌, ℕ, ℤ, List, Option, Some, None, map, filter, if◌then◌else◌}
use Rattle.std.specs.Ordering.{int_eq, nat_cmp}
use Rattle.sgl_values.specs.Least.{least_of}
use Rattle.nearest_tree.specs.declared.keys.LeastKeys.{LeastKeys}
use Rattle.nearest_tree.specs.declared.point.NearPoint.{NearPoint}
use Rattle.nearest_tree.specs.Nearest.{is_other_than}

-- the least key of the points whose group is not the given one
abbrev pub least_key_of : Option ℤ → List NearPoint → Option ℕ
least_key_of other points = least_of nat_cmp (map (λ point. point.key) (filter (is_other_than other) points))

-- what keys tell of it
abbrev pub key_without : Option ℤ → LeastKeys → Option ℕ
key_without None keys = Some keys.first
key_without (Some group) keys = if int_eq group keys.group then keys.other else Some keys.first

-- keys tell the least key of points, whichever group is left out, and the first is not above that of other groups
pub record AreLeastKeys (keys : LeastKeys) (points : List NearPoint) : Type 0 where
  pub told : (other : Option ℤ) → key_without other keys ≡ least_key_of other points
  pub first : (key : ℕ) → keys.other ≡ Some key → keys.first ≤ key
