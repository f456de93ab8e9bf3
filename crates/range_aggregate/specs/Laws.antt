-- Laws of boxes.
use Rattle.std.specs.Prelude.{◌≡◌, ℤ, List}
use Rattle.std.specs.List.Sorted.{IsPermutation}
use Rattle.range_aggregate.specs.Boxes.{count_of, sum_of}
use Rattle.range_aggregate.specs.declared.point.Point.{Point}

-- a box holds as many points in any order of them
abbrev pub CountsIgnoreOrder : Type 0
CountsIgnoreOrder = (x1 x2 y1 y2 : ℤ) (points others : List Point) → IsPermutation points others → count_of x1 x2 y1 y2 points ≡ count_of x1 x2 y1 y2 others

-- and the same sum of weights
abbrev pub SumsIgnoreOrder : Type 0
SumsIgnoreOrder = (x1 x2 y1 y2 : ℤ) (points others : List Point) → IsPermutation points others → sum_of x1 x2 y1 y2 points ≡ sum_of x1 x2 y1 y2 others
