-- Ways of aggregates and effects, computed.
use Rattle.std.proofs.Common.{◌≡◌, ℕ, pos, List, [], ◌∷◌, refl, Some, None}
use denote.Hole.Carrier.{hidden}
use Rattle.sgl_values.specs.declared.fault.Tag.TheVariants as tags
use Rattle.sgl_values.specs.declared.place.Place.{Place}
use Rattle.sgl_values.specs.declared.operator.BinOp.TheVariants.{Add}
use Rattle.sgl_values.specs.declared.operator.CmpOp.{CmpOp}
use Rattle.sgl_values.specs.declared.operator.CmpOp.TheVariants.{Eq, Ne, Lt, Le, Gt, Ge}
use Rattle.sgl_values.specs.declared.operator.FoldKind.{FoldKind}
use Rattle.sgl_values.specs.declared.operator.FoldKind.TheVariants as folds
use Rattle.sgl_typed.specs.declared.schema.EffectAttr.{EffectAttr}
use Rattle.sgl_typed.specs.declared.script.Attr.TheVariants.{Key, Const}
use Rattle.sgl_typed.specs.declared.script.TExpr.{TExpr}
use Rattle.sgl_typed.specs.declared.script.TExpr.TheVariants.{Slot, Unit as OfUnit, Target, Random, Binary}
use Rattle.sgl_typed.specs.declared.script.TExpr.TheBlock.{shape-the_row-TExpr-0, hidden-the_row-TExpr-0, shape-the_row-TExpr-1, hidden-the_row-TExpr-1}
use Rattle.sgl_typed.specs.declared.script.TTest.{TTest}
use Rattle.sgl_typed.specs.declared.script.TTest.TheVariants.{Compare, Within}
use Rattle.sgl_typed.specs.declared.script.TWrite.{TWrite}
use Rattle.battle_algebra.specs.Ways.{way_of, clause_way}
use Rattle.battle_algebra.specs.declared.plan.EffectWay.{EffectWay}
use Rattle.battle_algebra.specs.declared.plan.EffectWay.TheVariants as effect_ways
use Rattle.battle_algebra.specs.declared.plan.Way.{Way}
use Rattle.battle_algebra.specs.declared.plan.Way.TheVariants as ways

abbrev at : Place
at = record { line = 1; col = 1 }

-- e.a = p0, and so on
abbrev test : ℕ → CmpOp → TTest
test attr op = Compare (Const attr) op (Slot 0)

abbrev key_test : CmpOp → TTest
key_test op = Compare Key op (Slot 0)

abbrev circle : TTest
circle = Within (Const 1) (Const 2) (Slot 0)

abbrev way : FoldKind → List TTest → List TExpr → Way
way kind tests = way_of (Some record { name = []; params = 1; kind = kind; place = at; attr = Key; second = Key; tests = tests; otherwise = pos 0 })

-- ---- aggregates

by_key : way folds.Min (key_test Eq ∷ test 1 Lt ∷ []) [] ≡ ways.Key
by_key = refl

-- the key goes before a circle
key_first : way folds.Count (circle ∷ key_test Eq ∷ []) [] ≡ ways.Key
key_first = refl

-- a square: x and y from both sides, and another player
by_range : way folds.Count (test 1 Ge ∷ test 1 Le ∷ test 2 Gt ∷ test 2 Lt ∷ test 3 Ne ∷ []) [] ≡ ways.Range
by_range = refl

-- no test at all is a box too
whole_world : way folds.Sum [] [] ≡ ways.Range
whole_world = refl

three_attributes : way folds.Count (test 1 Ge ∷ test 2 Le ∷ test 3 Gt ∷ []) [] ≡ ways.Scan
three_attributes = refl

-- the key is an attribute
key_counts : way folds.Sum (test 1 Ge ∷ test 2 Le ∷ key_test Gt ∷ []) [] ≡ ways.Scan
key_counts = refl

four_equals : way folds.Count (test 1 Eq ∷ test 2 Eq ∷ test 3 Eq ∷ test 4 Eq ∷ []) [] ≡ ways.Scan
four_equals = refl

two_unequals : way folds.Count (test 1 Ne ∷ test 2 Ne ∷ []) [] ≡ ways.Scan
two_unequals = refl

-- the argument is built of an attribute of the unit
by_sweep : way folds.Lowest (Compare (Const 1) Ge (Binary Add (OfUnit (Const 1)) (Slot 0) at) ∷ []) (Random 7 ∷ []) ≡ ways.Sweep
unfolding shape-the_row-TExpr-0 hidden-the_row-TExpr-0 shape-the_row-TExpr-1 hidden-the_row-TExpr-1 hidden
by_sweep = refl

-- the argument is a slot of the frame
not_fixed : way folds.Lowest (Compare (Const 1) Ge (Binary Add (OfUnit (Const 1)) (Slot 0) at) ∷ []) (Slot 4 ∷ []) ≡ ways.Scan
unfolding shape-the_row-TExpr-0 hidden-the_row-TExpr-0 shape-the_row-TExpr-1 hidden-the_row-TExpr-1 hidden
not_fixed = refl

by_circle : way folds.Count (test 3 Eq ∷ circle ∷ test 4 Ne ∷ []) [] ≡ ways.Circle
by_circle = refl

two_circles : way folds.Count (circle ∷ circle ∷ []) [] ≡ ways.Scan
two_circles = refl

-- a circle within a box is scanned for
circle_and_range : way folds.Sum (circle ∷ test 1 Ge ∷ []) [] ≡ ways.Scan
circle_and_range = refl

circle_of_extreme : way folds.Max (circle ∷ []) (Random 7 ∷ []) ≡ ways.Scan
circle_of_extreme = refl

by_nearest : way folds.Nearest (test 3 Ne ∷ test 4 Eq ∷ []) [] ≡ ways.Nearest
by_nearest = refl

nearest_in_range : way folds.Nearest (test 3 Ne ∷ test 1 Lt ∷ []) [] ≡ ways.Scan
nearest_in_range = refl

nearest_in_circle : way folds.Nearest (circle ∷ []) [] ≡ ways.Scan
nearest_in_circle = refl

no_aggregate : way_of None [] ≡ ways.Scan
no_aggregate = refl

-- ---- effects: attribute 0 is a sum, and attribute 1 a least

abbrev effects : List EffectAttr
effects = record { name = []; tag = tags.Sum; init = pos 0 } ∷ record { name = []; tag = tags.Min; init = pos 0 } ∷ []

abbrev write : ℕ → TExpr → TWrite
write effect amount = record { effect = effect; amount = amount; by = None }

abbrev effect_way : List TTest → List TWrite → EffectWay
effect_way tests writes = clause_way effects (Some record { tests = tests; writes = writes })

effect_key : effect_way (test 1 Lt ∷ key_test Eq ∷ []) (write 0 (Slot 0) ∷ []) ≡ effect_ways.Key
effect_key = refl

-- one amount for all rows of a box
effect_area : effect_way (test 1 Ge ∷ test 2 Lt ∷ test 1 Le ∷ []) (write 0 (Slot 0) ∷ []) ≡ effect_ways.Area
effect_area = refl

least_in_box : effect_way (test 1 Ge ∷ []) (write 0 (Slot 0) ∷ write 1 (Slot 0) ∷ []) ≡ effect_ways.Slab
least_in_box = refl

-- the amount depends on the row
amount_of_target : effect_way (test 1 Ge ∷ []) (write 0 (Binary Add (Slot 0) (Target (Const 1)) at) ∷ []) ≡ effect_ways.Slab
unfolding shape-the_row-TExpr-0 hidden-the_row-TExpr-0 shape-the_row-TExpr-1 hidden-the_row-TExpr-1 hidden
amount_of_target = refl

three_in_box : effect_way (test 1 Ge ∷ test 2 Lt ∷ test 3 Le ∷ []) (write 0 (Slot 0) ∷ []) ≡ effect_ways.Slab
three_in_box = refl

other_group : effect_way (test 1 Ge ∷ test 2 Ne ∷ []) (write 0 (Slot 0) ∷ []) ≡ effect_ways.Slab
other_group = refl

effect_slab : effect_way (test 1 Ne ∷ test 2 Eq ∷ []) [] ≡ effect_ways.Slab
effect_slab = refl

effect_scan : effect_way (test 1 Ne ∷ circle ∷ []) [] ≡ effect_ways.Scan
effect_scan = refl

effect_all : effect_way [] (write 0 (Slot 0) ∷ []) ≡ effect_ways.Scan
effect_all = refl
