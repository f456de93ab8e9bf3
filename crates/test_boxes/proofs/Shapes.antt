-- What the bounds on tests tell of the tests that number groups, and of circles.
use Rattle.std.proofs.Common.{◌≡◌, ◌+◌, ◌≤◌, Bool, true, false, ◌&&◌, ◌||◌, cond, List, [], ◌∷◌, length, arith}
use Rattle.std.specs.Prelude.{filter}
use Rattle.std.specs.List.{list_any}
use Rattle.std.proofs.lemmas.Bool.{and_parts, leb-true, not-true}
use Rattle.sgl_typed.specs.declared.script.TTest.{TTest}
use Rattle.battle_algebra.specs.Ways.{covered, few_groups, is_boxed, is_circle, is_equal_test, is_unequal_test, x_of, y_of}
use Rattle.test_boxes.specs.declared.reading.Reading.{Reading}
use Rattle.test_boxes.specs.Readings.{grouping, is_alike, unequals}

one-test : (e u a : Bool) (test : TTest) (g es us : List TTest) → length g ≤ length es + length us
    → length (cond (e || (u && a)) (test ∷ g) g) ≤ length (cond e (test ∷ es) es) + length (cond u (test ∷ us) us)
one-test true true a test g es us h = omega (arith, h)
one-test true false a test g es us h = omega (arith, h)
one-test false true true test g es us h = omega (arith, h)
one-test false true false test g es us h = omega (arith, h)
one-test false false a test g es us h = h

few-grouping : (how : Reading) (tests : List TTest) → length (grouping how tests) ≤ length (filter is_equal_test tests) + length (unequals tests)
few-grouping how [] = omega arith
few-grouping how (test ∷ tests) = one-test (is_equal_test test) (is_unequal_test test) (is_alike how) test _ _ _ (few-grouping how tests)

-- at most four tests number the groups
pub four_group : (how : Reading) (tests : List TTest) → few_groups tests ≡ true → length (grouping how tests) ≤ 4
four_group how tests few =
    let parts = and_parts _ _ few in
    omega (arith, few-grouping how tests, leb-true (length (filter is_equal_test tests)) 3 parts.0, leb-true (length (unequals tests)) 1 parts.1)

-- at most one is unequal
pub one_unequal : (tests : List TTest) → few_groups tests ≡ true → length (unequals tests) ≤ 1
one_unequal tests few = leb-true (length (unequals tests)) 1 (and_parts _ _ few).1

pub boxed_covered : (tests : List TTest) → is_boxed tests ≡ true → covered (x_of tests) (y_of tests) tests ≡ true
boxed_covered tests boxed = (and_parts _ _ boxed).0

pub boxed_no_circle : (tests : List TTest) → is_boxed tests ≡ true → list_any is_circle tests ≡ false
boxed_no_circle tests boxed = not-true _ (and_parts _ _ boxed).1
