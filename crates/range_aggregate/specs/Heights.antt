-- Points at their places, and their numbers y in order.
use Rattle.std.specs.Prelude.{◌≡◌, ℕ, ℤ, pos, List, map, slice_index_or}
use Rattle.rank_table.specs.Orders.{number_at, IsOrder}
use Rattle.range_aggregate.specs.declared.point.Point.{Point}
use Rattle.range_aggregate.specs.declared.heights.Heights.{Heights}

abbrev pub point_at : List Point → ℕ → Point
point_at points place = slice_index_or points place record { x = pos 0; y = pos 0; weight = pos 0 }

-- these numbers in order, each with the place where it stood
pub record AreHeights (ys : List ℤ) (heights : Heights) : Type 0 where
  pub order : IsOrder ys heights.places.items
  pub ys_are : heights.ys.items ≡ map (number_at ys) heights.places.items
