-- Tests as they stand, without the unequal tests, and with these turned into equal ones; and the tests whose values number groups.
use Rattle.std.specs.Prelude.{ℤ, not, ◌&&◌, ◌||◌, Bool, true, false, List, map, filter, if◌then◌else◌}
use Rattle.std.specs.List.{list_all}
use Rattle.std.specs.Ordering.{int_eq}
use Rattle.sgl_values.specs.World.{Row}
use Rattle.sgl_values.specs.declared.operator.CmpOp.{CmpOp}
use Rattle.sgl_values.specs.declared.operator.CmpOp.TheVariants.{Ne}
use Rattle.sgl_typed.specs.declared.script.TTest.{TTest}
use Rattle.sgl_typed.specs.declared.script.TTest.TheVariants.{Compare, Within}
use Rattle.sgl_typed.specs.Value.{attribute, compares}
use Rattle.battle_algebra.specs.Ways.{attr_of, is_equal_test, is_unequal_test}
use Rattle.test_boxes.specs.declared.reading.Reading.{Reading}
use Rattle.test_boxes.specs.declared.reading.Reading.TheVariants.{Plain, Away, Alike}

-- ---- how an unequal test is read

abbrev pub unequal_read : Reading → ℤ → ℤ → Bool
unequal_read Plain v z = not (int_eq v z)
unequal_read Away v z = true
unequal_read Alike v z = int_eq v z

-- whether a value passes a comparison
abbrev pub compares_read : Reading → CmpOp → ℤ → ℤ → Bool
compares_read how Ne v z = unequal_read how v z
compares_read how op v z = compares op v z

-- whether a row passes a test, given its right side; a circle is not read here, and lets each row pass
abbrev pub meets_read : Reading → Row → TTest → ℤ → Bool
meets_read how row (Compare attr op right) z = compares_read how op (attribute attr row) z
meets_read how row (Within x y radius) z = true

-- whether it passes each test
abbrev pub passes_read : Reading → (TTest → ℤ) → List TTest → Row → Bool
passes_read how right tests row = list_all (λ test. meets_read how row test (right test)) tests

abbrev pub is_plain : Reading → Bool
is_plain Plain = true
is_plain how = false

abbrev pub is_alike : Reading → Bool
is_alike Alike = true
is_alike how = false

-- ---- groups

-- the value of the test numbers the groups
abbrev pub groups_by : Reading → TTest → Bool
groups_by how test = is_equal_test test || (is_unequal_test test && is_alike how)

-- the tests whose values number the groups
abbrev pub grouping : Reading → List TTest → List TTest
grouping how tests = filter (groups_by how) tests

-- the values of a row that tests read
abbrev pub row_key : List TTest → Row → List ℤ
row_key tests row = map (λ test. attribute (attr_of test) row) tests

-- ---- the unequal tests

abbrev pub unequals : List TTest → List TTest
unequals tests = filter is_unequal_test tests

-- the value that the test reads of a row is its right side
abbrev pub is_alike_at : (TTest → ℤ) → Row → TTest → Bool
is_alike_at right row test = int_eq (attribute (attr_of test) row) (right test)

-- the row passes each unequal test
abbrev pub passes_unequal : (TTest → ℤ) → List TTest → Row → Bool
passes_unequal right tests row = list_all (λ test. if is_unequal_test test then not (is_alike_at right row test) else true) tests

-- the row passes each unequal test turned into an equal one
abbrev pub passes_turned : (TTest → ℤ) → List TTest → Row → Bool
passes_turned right tests row = list_all (λ test. if is_unequal_test test then is_alike_at right row test else true) tests
