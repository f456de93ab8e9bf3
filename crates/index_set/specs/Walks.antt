-- Rows that are walked through, and tested.
use Rattle.std.specs.Prelude.{◌≡◌, ℕ, ◌-◌, ◌<◌, All, Bool, true, false, List, filter, get_or, length, Option, None, Some}
use Rattle.std.specs.List.{range_with_len}
use Rattle.sgl_values.specs.World.{row_at}
use Rattle.sgl_typed.specs.Aggregate.{meets}
use Rattle.sgl_typed.specs.Value.{Context}
use Rattle.sgl_typed.specs.declared.script.TTest.{TTest}
use Rattle.sgl_evaluate.specs.Rights.{passes_each, right_of}
use Rattle.index_set.specs.declared.left.Left.{Left}
use Rattle.index_set.specs.declared.left.Left.TheVariants.{Nothing, One, Others as Apart, All as Each}
use Rattle.index_set.specs.declared.walk.Walk.{Walk}
use Rattle.index_set.specs.declared.walk.Walk.TheVariants.{Rows, Strip, Sole, Exact, Others}
use Rattle.index_set.specs.Others.{others_rest}

-- the rows that are still to come
abbrev pub walk_rest : Walk → List ℕ
walk_rest (Rows next end) = range_with_len next (end - next)
walk_rest (Strip strip) = strip
walk_rest (Sole strip number) = strip
walk_rest (Exact strip) = strip
walk_rest (Others others) = others_rest others

-- the walk along rows that are asked the tests that are left
abbrev pub asked_rows : Left → List ℕ → Walk
asked_rows Nothing rows = Exact rows
asked_rows (One number) rows = Sole rows number
asked_rows Apart rows = Strip rows
asked_rows Each rows = Strip rows

-- the row with this number passes the tests
abbrev pub row_passes : Context → List TTest → ℕ → Bool
row_passes c tests row = passes_each c tests (row_at c.world row)

-- it passes one test
abbrev pub row_meets : Context → TTest → ℕ → Bool
row_meets c test row = meets c.unit (row_at c.world row) test (right_of c test)

-- the rows still to come that pass
abbrev pub passing_rest : Context → List TTest → Walk → List ℕ
passing_rest c tests walk = filter (row_passes c tests) (walk_rest walk)

-- the number of the only test that is asked
abbrev pub sole_of : Walk → Option ℕ
sole_of (Rows next end) = None
sole_of (Strip strip) = None
sole_of (Sole strip number) = Some number
sole_of (Exact strip) = None
sole_of (Others others) = None

-- no test is asked
abbrev pub is_exact : Walk → Bool
is_exact (Rows next end) = false
is_exact (Strip strip) = false
is_exact (Sole strip number) = false
is_exact (Exact strip) = true
is_exact (Others others) = true

-- these rows pass all tests where they pass the one with this number
abbrev pub AreEnough : Context → List TTest → ℕ → List ℕ → Type 0
AreEnough c tests number rows = (number < length tests) × ((none : TTest) → All (λ row. row_passes c tests row ≡ row_meets c (get_or tests number none) row) rows)

-- rows that are not asked all tests pass all where they pass what they are asked
abbrev pub AsksEnough : Context → List TTest → Walk → Type 0
AsksEnough c tests walk = (is_exact walk ≡ true → All (λ row. row_passes c tests row ≡ true) (walk_rest walk))
    × ((number : ℕ) → sole_of walk ≡ Some number → AreEnough c tests number (walk_rest walk))
