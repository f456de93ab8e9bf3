-- How aggregates are answered and how the rows of an effect are found, by their tests.
use Rattle.std.specs.Prelude.{ℕ, ◌+◌, ◌==◌, ◌&&◌, ◌||◌, not, nat_le, nat_lt, Bool, true, false, List, [], ◌∷◌, filter, length, slice_get, Option, Some, None, if◌then◌else◌}
use Rattle.std.specs.List.{list_any, list_all}
use Rattle.sgl_values.specs.declared.operator.CmpOp.{CmpOp}
use Rattle.sgl_values.specs.declared.operator.CmpOp.TheVariants.{Eq, Ne}
use Rattle.sgl_values.specs.declared.operator.FoldKind.{FoldKind}
use Rattle.sgl_values.specs.declared.operator.FoldKind.TheVariants.{Count, Sum, Nearest}
use Rattle.sgl_values.specs.declared.fault.Tag.{Tag}
use Rattle.sgl_values.specs.declared.fault.Tag.TheVariants as tags
use Rattle.sgl_typed.specs.Aggregate.{right_side}
use Rattle.sgl_typed.specs.declared.schema.EffectAttr.{EffectAttr}
use Rattle.sgl_typed.specs.declared.script.AggUse.{AggUse}
use Rattle.sgl_typed.specs.declared.script.Attr.{Attr}
use Rattle.sgl_typed.specs.declared.script.Attr.TheVariants.{Key, Const}
use Rattle.sgl_typed.specs.declared.script.TAgg.{TAgg}
use Rattle.sgl_typed.specs.declared.script.TExpr.{TExpr, end_of-TExpr, more_of-TExpr}
use Rattle.sgl_typed.specs.declared.script.TExpr.TheVariants.{Number, Slot, Unit as OfUnit, Target, Random, Neg', Not', Binary'}
use Rattle.sgl_typed.specs.declared.script.TOn.{TOn}
use Rattle.sgl_typed.specs.declared.script.TScript.{TScript}
use Rattle.sgl_typed.specs.declared.script.TTest.{TTest}
use Rattle.sgl_typed.specs.declared.script.TTest.TheVariants.{Compare, Within}
use Rattle.sgl_typed.specs.declared.script.TWrite.{TWrite}
use Rattle.battle_algebra.specs.Meaning.{clause_of}
use Rattle.battle_algebra.specs.declared.plan.EffectUse.{EffectUse}
use Rattle.battle_algebra.specs.declared.plan.EffectWay.{EffectWay}
use Rattle.battle_algebra.specs.declared.plan.EffectWay.TheVariants as effect_ways
use Rattle.battle_algebra.specs.declared.plan.Way.{Way}
use Rattle.battle_algebra.specs.declared.plan.Way.TheVariants as ways

-- ---- sorts of tests

abbrev pub is_equal : CmpOp → Bool
is_equal Eq = true
is_equal op = false

abbrev pub is_unequal : CmpOp → Bool
is_unequal Ne = true
is_unequal op = false

abbrev pub is_range : CmpOp → Bool
is_range Eq = false
is_range Ne = false
is_range op = true

-- the attributes by number, the key first
abbrev pub number_of : Attr → ℕ
number_of Key = 0
number_of (Const i) = i + 1

-- the test compares an attribute by an operator of this sort
abbrev pub compares_by : (CmpOp → Bool) → TTest → Bool
compares_by sort (Compare attr op right) = sort op
compares_by sort (Within x y radius) = false

abbrev pub is_equal_test : TTest → Bool
is_equal_test test = compares_by is_equal test

abbrev pub is_unequal_test : TTest → Bool
is_unequal_test test = compares_by is_unequal test

abbrev pub is_range_test : TTest → Bool
is_range_test test = compares_by is_range test

abbrev pub is_circle : TTest → Bool
is_circle (Compare attr op right) = false
is_circle (Within x y radius) = true

-- the attribute that a test compares; a circle is given by two, of which this is the first
abbrev pub attr_of : TTest → Attr
attr_of (Compare attr op right) = attr
attr_of (Within x y radius) = x

-- some test is that the key equals a value
abbrev pub tests_key : List TTest → Bool
tests_key tests = list_any (λ test. is_equal_test test && (number_of (attr_of test) == 0)) tests

-- ---- the attributes of range tests

abbrev pub same_attr : Attr → Attr → Bool
same_attr Key Key = true
same_attr (Const i) (Const j) = i == j
same_attr a b = false

-- a range test of the attribute
abbrev pub is_along : Option Attr → TTest → Bool
is_along None test = false
is_along (Some attr) test = is_range_test test && same_attr (attr_of test) attr

-- each range test is of one of two attributes
abbrev pub covered : Option Attr → Option Attr → List TTest → Bool
covered x y tests = list_all (λ test. not (is_range_test test) || (is_along x test || is_along y test)) tests

-- the attribute of the first range test
abbrev pub first_range : List TTest → Option Attr
first_range [] = None
first_range (test ∷ tests) = if is_range_test test then Some (attr_of test) else first_range tests

-- the attribute of the first range test of another attribute
abbrev pub next_range : Option Attr → List TTest → Option Attr
next_range x [] = None
next_range x (test ∷ tests) = if is_range_test test && not (is_along x test) then Some (attr_of test) else next_range x tests

-- the two attributes of the range tests
abbrev pub x_of : List TTest → Option Attr
x_of tests = first_range tests

abbrev pub y_of : List TTest → Option Attr
y_of tests = next_range (first_range tests) tests

-- ---- the bounds on tests

-- at most three equal tests and at most one unequal test: what groups of rows answer
abbrev pub few_groups : List TTest → Bool
few_groups tests = nat_le (length (filter is_equal_test tests)) 3 && nat_le (length (filter is_unequal_test tests)) 1

-- range tests on at most two different attributes, and no circle
abbrev pub is_boxed : List TTest → Bool
is_boxed tests = covered (x_of tests) (y_of tests) tests && not (list_any is_circle tests)

-- exactly one circle, and no range test
abbrev pub is_round : List TTest → Bool
is_round tests = (length (filter is_circle tests) == 1) && not (list_any is_range_test tests)

-- no range test, and no circle
abbrev pub is_unbounded : List TTest → Bool
is_unbounded tests = not (list_any is_range_test tests) && not (list_any is_circle tests)

-- ---- right sides that a row alone decides

-- built of numbers, attributes of the unit and random numbers; a slot is as the test on slots says
abbrev pub fixed_with : TExpr → (ℕ → Bool) → Bool
fixed_with (Number n) slot_fixed = true
fixed_with (OfUnit attr) slot_fixed = true
fixed_with (Random i) slot_fixed = true
fixed_with (Slot i) slot_fixed = slot_fixed i
fixed_with (Neg' shape (more_of-TExpr inner end_of-TExpr)) slot_fixed = fixed_with inner slot_fixed
fixed_with (Binary' op shape (more_of-TExpr left end_of-TExpr) shape' (more_of-TExpr right end_of-TExpr) place) slot_fixed =
    fixed_with left slot_fixed && fixed_with right slot_fixed
fixed_with e slot_fixed = false

abbrev pub arg_fixed : Option TExpr → Bool
arg_fixed None = false
arg_fixed (Some e) = fixed_with e (λ i. false)

-- each right side is, with the arguments put in
abbrev pub all_fixed : List TTest → List TExpr → Bool
all_fixed tests args = list_all (λ test. fixed_with (right_side test) (λ i. arg_fixed (slice_get args i))) tests

-- ---- the ways of aggregates, in the order in which they are tried

abbrev pub way_of_total : List TTest → Way
way_of_total tests =
    if few_groups tests && is_round tests then ways.Circle
    else if few_groups tests && is_boxed tests then ways.Range else ways.Scan

abbrev pub way_of_extreme : List TTest → List TExpr → Way
way_of_extreme tests args =
    if few_groups tests && (is_boxed tests && all_fixed tests args) then ways.Sweep else ways.Scan

abbrev pub way_of_nearest : List TTest → Way
way_of_nearest tests = if few_groups tests && is_unbounded tests then ways.Nearest else ways.Scan

abbrev pub way_by_fold : FoldKind → List TTest → List TExpr → Way
way_by_fold Count tests args = way_of_total tests
way_by_fold Sum tests args = way_of_total tests
way_by_fold Nearest tests args = way_of_nearest tests
way_by_fold kind tests args = way_of_extreme tests args

abbrev pub way_of : Option TAgg → List TExpr → Way
way_of None args = ways.Scan
way_of (Some agg) args = if tests_key agg.tests then ways.Key else way_by_fold agg.kind agg.tests args

-- the way of a call
abbrev pub class_of : TScript → AggUse → Way
class_of script call = way_of (slice_get script.aggs call.agg) call.args

-- ---- the ways of effects, in the order in which they are tried

-- an amount reads the row that is written to; no amount calls an aggregate
abbrev pub reads_target : TExpr → Bool
reads_target (Target attr) = true
reads_target (Neg' shape (more_of-TExpr inner end_of-TExpr)) = reads_target inner
reads_target (Not' shape (more_of-TExpr inner end_of-TExpr)) = reads_target inner
reads_target (Binary' op shape (more_of-TExpr left end_of-TExpr) shape' (more_of-TExpr right end_of-TExpr) place) =
    reads_target left || reads_target right
reads_target e = false

abbrev pub is_sum : Tag → Bool
is_sum tags.Sum = true
is_sum tag = false

abbrev pub is_sum_attr : Option EffectAttr → Bool
is_sum_attr None = false
is_sum_attr (Some attr) = is_sum attr.tag

-- one amount for all rows, for an attribute that is summed up
abbrev pub is_spread : List EffectAttr → TWrite → Bool
is_spread effects write = is_sum_attr (slice_get effects write.effect) && not (reads_target write.amount)

-- tests that are a box, and writes that are spread over it
abbrev pub is_area : List EffectAttr → TOn → Bool
is_area effects clause =
    (nat_lt 0 (length clause.tests) && list_all is_range_test clause.tests)
    && (covered (x_of clause.tests) (y_of clause.tests) clause.tests && list_all (is_spread effects) clause.writes)

abbrev pub clause_way : List EffectAttr → Option TOn → EffectWay
clause_way effects None = effect_ways.Scan
clause_way effects (Some clause) =
    if tests_key clause.tests then effect_ways.Key
    else if is_area effects clause then effect_ways.Area
    else if list_any (λ test. is_equal_test test || is_range_test test) clause.tests then effect_ways.Slab
    else effect_ways.Scan

-- the way of an effect
abbrev pub effect_way : TScript → EffectUse → EffectWay
effect_way script act = clause_way script.schema.effects (clause_of (slice_get script.actions act.action) act.clause)
