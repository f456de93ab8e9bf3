-- The rows of a world as points, by group.
use Rattle.std.specs.Prelude.{◌≡◌, ℕ, ℤ, ◌<◌, ◌==◌, Bool, false, List, [], length, filter, map, slice_index_or, Option, None, Some, if◌then◌else◌}
use Rattle.std.specs.List.Sorted.{IsPermutation}
use Rattle.sgl_values.specs.World.{Row}
use Rattle.range_aggregate.specs.Boxes.{count_of}
use Rattle.range_aggregate.specs.declared.point.Point.{Point}
use Rattle.row_groups.specs.Groups.{Grouping, number_of, rows_in, AreWhole}
use Rattle.row_groups.specs.Keys.{along, has_key}
use Rattle.row_groups.specs.Listed.{list_if}
use Rattle.test_boxes.specs.declared.span.Span.{Span}
use Rattle.group_boxes.specs.declared.axes.Axes.{Axes}

-- a row as a point, with its weight
abbrev pub point_of : Axes → Row → Point
point_of axes row = record { x = along axes.x row; y = along axes.y row; weight = along axes.weigh row }

-- the axes, and the points of each group
pub record Indexed : Type 0 where
  pub axes : Axes
  pub lists : List (List Point)

-- the points of the group with this key
abbrev pub points_under : Grouping → Indexed → List ℤ → List Point
points_under groups boxes key = list_if boxes.lists (number_of groups key)

-- the point of the row with this number
abbrev pub point_at : Axes → List Row → ℕ → Point
point_at axes rows row = point_of axes (slice_index_or rows row record { key = 0; values = [] })

-- under each key, also one that no row has, the points of the rows with that key; each row is in one group, which has its point
pub record IsBoxes (groups : Grouping) (boxes : Indexed) (rows : List Row) : Type 0 where
  pub held : (key : List ℤ) → IsPermutation (map (point_of boxes.axes) (filter (has_key groups.attrs key) rows)) (points_under groups boxes key)
  pub each : (group : ℕ) → IsPermutation (map (point_at boxes.axes rows) (rows_in groups group)) (slice_index_or boxes.lists group [])
  pub whole : AreWhole groups.lists (length rows)
  pub inside : (key : List ℤ) (group : ℕ) → number_of groups key ≡ Some group → group < length groups.lists

-- the number of the points of a group in a box
abbrev pub count_in : Indexed → Span → Span → ℕ → ℕ
count_in boxes across down group = count_of across.low across.high down.low down.high (slice_index_or boxes.lists group [])

-- it is the group with this number, where there is one
abbrev pub is_own : Option ℕ → ℕ → Bool
is_own None group = false
is_own (Some own) group = own == group

-- the number of the points of a group in a box, and none of one group
abbrev pub count_but : Indexed → Span → Span → Option ℕ → ℕ → ℕ
count_but boxes across down own group = if is_own own group then 0 else count_in boxes across down group
