-- Extremes as least pairs of windows.
use Rattle.std.specs.Prelude.{neg_ℤ, Bool, true, false}
use Rattle.std.specs.declared.cmp.Ordering.{Ordering}
use Rattle.sgl_values.specs.World.{Row}
use Rattle.sgl_values.specs.declared.operator.FoldKind.{FoldKind}
use Rattle.sgl_values.specs.declared.operator.FoldKind.TheVariants.{Count, Sum, Max, Lowest, Highest, Nearest}
use Rattle.sgl_typed.specs.declared.script.Attr.{Attr}
use Rattle.sgl_typed.specs.declared.script.Attr.TheVariants.{Key as TheKey}
use Rattle.sgl_typed.specs.declared.script.TAgg.{TAgg}
use Rattle.sgl_typed.specs.Aggregate.{falling_cmp, rising_cmp}
use Rattle.sgl_typed.specs.Value.{attribute}
use Rattle.battle_algebra.specs.Ways.{x_of, y_of}
use Rattle.extreme_sweep.specs.declared.pair.Pair.{Pair}
use Rattle.extreme_sweep.specs.declared.window.SweepPoint.{SweepPoint}
use Rattle.row_groups.specs.Keys.{along}
use Rattle.test_boxes.specs.Others.{other_of}
use Rattle.group_sweeps.specs.declared.sides.Sides.{Sides}

-- ---- kinds of extremes

-- the fold looks for the least or the greatest value of an attribute
abbrev pub is_extreme : FoldKind → Bool
is_extreme Count = false
is_extreme Sum = false
is_extreme Nearest = false
is_extreme kind = true

-- it looks for the greatest value
abbrev pub is_falling : FoldKind → Bool
is_falling Max = true
is_falling Highest = true
is_falling kind = false

-- the attribute of the row that is found that is the answer
abbrev pub target_of : FoldKind → Attr → Attr
target_of Lowest attr = TheKey
target_of Highest attr = TheKey
target_of Nearest attr = TheKey
target_of kind attr = attr

-- rows from the least value up, or from the greatest down, and then by key
abbrev pub order_of : Bool → Attr → Row → Row → Ordering
order_of false attr = rising_cmp attr
order_of true attr = falling_cmp attr

-- ---- rows as points

-- the value and the key of a row; where the greatest value is looked for, it is turned round
abbrev pub pair_of : Bool → Attr → Row → Pair
pair_of false attr row = record { value = attribute attr row; key = row.key }
pair_of true attr row = record { value = neg_ℤ (attribute attr row); key = row.key }

abbrev pub sides_of : TAgg → Sides
sides_of agg = record { falling = is_falling agg.kind; attr = agg.attr; x = x_of agg.tests; y = y_of agg.tests; other = other_of agg.tests }

-- a row as a point of a sweep
abbrev pub sweep_point : Sides → Row → SweepPoint
sweep_point sides row = record {
  x = along sides.x row;
  y = along sides.y row;
  entry = record { pair = pair_of sides.falling sides.attr row; group = along sides.other row };
}
