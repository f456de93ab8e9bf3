-- The right sides of tests, one by one.
use Rattle.std.specs.Prelude.{◌≡◌, ℤ, pos, Bool, List, [], ◌∷◌, length, map, min, take, Option, Some, None, Result, Ok, Err}
use Rattle.std.specs.List.{list_all}
use Rattle.sgl_values.specs.World.{Row}
use Rattle.sgl_values.specs.declared.fault.Fault.{Fault}
use Rattle.sgl_typed.specs.declared.script.TTest.{TTest}
use Rattle.sgl_typed.specs.Value.{Context}
use Rattle.sgl_typed.specs.Aggregate.{simple_value, number_in, right_side, meets}
use Rattle.sgl_evaluate.specs.declared.rights.Rights.{Rights}
use Rattle.sgl_values.specs.declared.limit.TheConstants.{TESTS_MAX}

-- the number of a right side, and 0 in place of a fault
abbrev pub number_or_zero : Result ℤ Fault → ℤ
number_or_zero (Ok z) = z
number_or_zero (Err fault) = pos 0

-- a fault, or what comes behind a number
abbrev pub fault_before : Result ℤ Fault → Option Fault → Option Fault
fault_before (Ok z) later = later
fault_before (Err fault) later = Some fault

-- the first fault of the right sides
abbrev pub first_fault_of : Context → List TTest → Option Fault
first_fault_of c [] = None
first_fault_of c (test ∷ tests) = fault_before (number_in (simple_value c (right_side test))) (first_fault_of c tests)

-- the right side of a test as a number
abbrev pub right_of : Context → TTest → ℤ
right_of c test = number_or_zero (number_in (simple_value c (right_side test)))

-- the row passes each test for the acting unit
abbrev pub passes_each : Context → List TTest → Row → Bool
passes_each c tests row = list_all (λ test. meets c.unit row test (right_of c test)) tests

-- these are the right sides of the first sixteen tests
abbrev pub AreRights : Context → List TTest → Rights → Type 0
AreRights c tests rights = take (min TESTS_MAX (length tests)) rights.numbers ≡ map (right_of c) (take TESTS_MAX tests)
