-- Boxes of the plane, and what lies in them.
use Rattle.std.specs.Prelude.{ℕ, ℤ, pos, ◌+ℤ◌, ◌&&◌, Bool, List, length, filter}
use Rattle.sgl_values.specs.Range.{is_between}
use Rattle.sgl_values.specs.Totals.{total}
use Rattle.range_aggregate.specs.declared.point.Point.{Point}

-- the point lies in the box, whose edges belong to it
abbrev pub is_in : (x1 x2 y1 y2 : ℤ) → Point → Bool
is_in x1 x2 y1 y2 point = is_between x1 x2 point.x && is_between y1 y2 point.y

-- the number of the points that lie in the box
abbrev pub count_of : (x1 x2 y1 y2 : ℤ) → List Point → ℕ
count_of x1 x2 y1 y2 points = length (filter (is_in x1 x2 y1 y2) points)

-- the sum of the weights of points
abbrev pub weight_of : List Point → ℤ
weight_of points = total ◌+ℤ◌ (pos 0) (λ point. point.weight) points

-- the sum of the weights of those that lie in the box
abbrev pub sum_of : (x1 x2 y1 y2 : ℤ) → List Point → ℤ
sum_of x1 x2 y1 y2 points = weight_of (filter (is_in x1 x2 y1 y2) points)
