-- The rows of each group between the bounds of two values.
use Rattle.std.specs.Prelude.{ℕ, ℤ, List, Option}
use Rattle.std.specs.List.Sorted.{IsPermutation}
use Rattle.sgl_values.specs.World.{World}
use Rattle.sgl_typed.specs.declared.script.Attr.{Attr}
use Rattle.row_groups.specs.declared.ranked.Ranked.{Ranked}
use Rattle.row_groups.specs.Groups.{Grouping, rows_in}
use Rattle.row_groups.specs.Ranked.{rows_between, rows_valued}

-- for each group and the bounds of two values, all included, the rows of the group with values of both attributes between them
pub record IsSorting (sorted : List Ranked) (groups : Grouping) (axis across : Option Attr) (world : World) : Type 0 where
  pub held : (group : ℕ) (x1 x2 y1 y2 : ℤ) → IsPermutation (rows_between sorted group x1 x2 y1 y2) (rows_valued across world y1 y2 (rows_valued axis world x1 x2 (rows_in groups group)))
