-- The orders of rows in which a fold looks for the first.
use Rattle.std.specs.declared.cmp.Ordering.{Ordering}
use Rattle.sgl_values.specs.World.{Row}
use Rattle.sgl_typed.specs.Aggregate.{rising_cmp, falling_cmp, distance_cmp}
use Rattle.sgl_evaluate.specs.declared.extreme.Rank.{Rank}
use Rattle.sgl_evaluate.specs.declared.extreme.Rank.TheVariants.{Rising, Falling, Near}

-- from the least up, from the greatest down, or from the row nearest to the acting one on
abbrev pub ranked : Rank → Row → Row → Row → Ordering
ranked (Rising attr) unit = rising_cmp attr
ranked (Falling attr) unit = falling_cmp attr
ranked (Near x y) unit = distance_cmp x y unit
