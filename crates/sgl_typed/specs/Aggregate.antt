-- The value of an aggregate: a scan of the whole world.
use Rattle.std.specs.Prelude.{ℤ, pos, ◌+ℤ◌, Bool, List, [], ◌∷◌, filter, zip, length, slice_get, Option, Some, None, Result, Ok, Err}
use Rattle.std.specs.List.{list_all}
use Rattle.std.specs.Ordering.{nat_cmp, int_cmp, on, then_cmp, flip_args}
use Rattle.std.specs.declared.cmp.Ordering.{Ordering}
use Rattle.sgl_values.specs.Distance.{squared_distance, is_in_circle}
use Rattle.sgl_values.specs.Values.{bounded}
use Rattle.sgl_values.specs.Least.{least_of}
use Rattle.sgl_values.specs.World.{Row}
use Rattle.sgl_values.specs.declared.fault.Fault.{Fault}
use Rattle.sgl_values.specs.declared.fault.Val.{Val}
use Rattle.sgl_values.specs.declared.fault.Val.TheVariants.{N, B, F}
use Rattle.sgl_values.specs.declared.operator.FoldKind.{FoldKind}
use Rattle.sgl_values.specs.declared.operator.FoldKind.TheVariants.{Count, Sum, Min, Max, Lowest, Highest, Nearest}
use Rattle.sgl_typed.specs.declared.script.Attr.{Attr}
use Rattle.sgl_typed.specs.declared.script.TExpr.{TExpr}
use Rattle.sgl_typed.specs.declared.script.TTest.{TTest}
use Rattle.sgl_typed.specs.declared.script.TTest.TheVariants.{Compare, Within}
use Rattle.sgl_typed.specs.declared.script.TAgg.{TAgg}
use Rattle.sgl_typed.specs.Value.{Context, at_place, attribute, compares, value_with}

-- the value of an expression in which no aggregate is called
abbrev pub simple_value : Context → TExpr → Val
simple_value = value_with (λ agg args. N (pos 0))

-- ---- tests

-- the number, or the fault; a truth stands there in no script
abbrev pub number_in : Val → Result ℤ Fault
number_in (N z) = Ok z
number_in (B b) = Ok (pos 0)
number_in (F fault) = Err fault

-- the first fault, or all numbers
abbrev pub with_first : Result ℤ Fault → Result (List ℤ) Fault → Result (List ℤ) Fault
with_first (Err fault) more = Err fault
with_first (Ok z) (Err fault) = Err fault
with_first (Ok z) (Ok zs) = Ok (z ∷ zs)

-- the right side of a test: what an attribute is compared with, or the radius of a circle
abbrev pub right_side : TTest → TExpr
right_side (Compare attr op right) = right
right_side (Within x y radius) = radius

-- the right sides of the tests in order, or the first fault
abbrev pub right_sides : Context → List TTest → Result (List ℤ) Fault
right_sides c [] = Ok []
right_sides c (test ∷ tests) = with_first (number_in (simple_value c (right_side test))) (right_sides c tests)

-- the square of the distance of two rows, whose points are given by two attributes
abbrev pub distance : Attr → Attr → Row → Row → ℤ
distance x y from to = squared_distance (attribute x from) (attribute y from) (attribute x to) (attribute y to)

-- the row passes a test, given its right side; a circle is drawn round the acting row
abbrev pub meets : Row → Row → TTest → ℤ → Bool
meets unit row (Compare attr op right) z = compares op (attribute attr row) z
meets unit row (Within x y radius) z = is_in_circle z (distance x y unit row)

-- the row passes each test for this acting row, given the right sides
abbrev pub passes : Row → List TTest → List ℤ → Row → Bool
passes unit tests rights row = list_all (λ pair. meets unit row pair.0 pair.1) (zip tests rights)

-- ---- folds

-- the exact sum of an attribute
abbrev pub sum_of : Attr → List Row → ℤ
sum_of attr [] = pos 0
sum_of attr (row ∷ rows) = attribute attr row +ℤ sum_of attr rows

-- rows go by an attribute from the least up, and then by key
abbrev pub rising_cmp : Attr → Row → Row → Ordering
rising_cmp attr = then_cmp (on (attribute attr) int_cmp) (on (λ row. row.key) nat_cmp)

-- rows go by an attribute from the greatest down, and then by key
abbrev pub falling_cmp : Attr → Row → Row → Ordering
falling_cmp attr = then_cmp (flip_args (on (attribute attr) int_cmp)) (on (λ row. row.key) nat_cmp)

-- rows go by the distance from the acting row from the least up, and then by key
abbrev pub distance_cmp : Attr → Attr → Row → Row → Row → Ordering
distance_cmp x y unit = then_cmp (on (distance x y unit) int_cmp) (on (λ row. row.key) nat_cmp)

-- an attribute of the row that was found, or what stands behind `else`
abbrev pub found_or : Attr → ℤ → Option Row → Val
found_or attr otherwise None = N otherwise
found_or attr otherwise (Some row) = N (attribute attr row)

-- what an aggregate makes of the rows that pass, for this acting row
abbrev pub made : FoldKind → TAgg → Row → List Row → Val
made Count agg unit rows = N (pos (length rows))
made Sum agg unit rows = at_place agg.place (bounded (sum_of agg.attr rows))
made Min agg unit rows = found_or agg.attr agg.otherwise (least_of (rising_cmp agg.attr) rows)
made Max agg unit rows = found_or agg.attr agg.otherwise (least_of (falling_cmp agg.attr) rows)
made Lowest agg unit rows = found_or Attr.Key agg.otherwise (least_of (rising_cmp agg.attr) rows)
made Highest agg unit rows = found_or Attr.Key agg.otherwise (least_of (falling_cmp agg.attr) rows)
made Nearest agg unit rows = found_or Attr.Key agg.otherwise (least_of (distance_cmp agg.attr agg.second unit) rows)

-- the rows of the whole world that pass for this acting row, unless a right side is a fault
abbrev pub scanned : TAgg → Row → List Row → Result (List ℤ) Fault → Val
scanned agg unit rows (Err fault) = F fault
scanned agg unit rows (Ok rights) = made agg.kind agg unit (filter (passes unit agg.tests rights) rows)

-- the value of an aggregate for the unit of the context, with the values of its arguments
abbrev pub aggregate : TAgg → Context → List Val → Val
aggregate agg c args = scanned agg c.unit c.world.rows (right_sides (record c { slots = args }) agg.tests)

-- no script calls an aggregate that it lacks
abbrev pub call_of : Context → Option TAgg → List Val → Val
call_of c None args = N (pos 0)
call_of c (Some agg) args = aggregate agg c args

-- the value of an expression
abbrev pub value : Context → TExpr → Val
value c = value_with (λ agg args. call_of c (slice_get c.script.aggs agg) args) c
