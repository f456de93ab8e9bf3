-- Tests that ask for a key.
use Rattle.std.specs.Prelude.{ℕ, ℤ, ◌&&◌, ◌==◌, Bool, List, [], ◌∷◌, Option, None, Some, if◌then◌else◌}
use Rattle.sgl_values.specs.World.{Row, World, row_at}
use Rattle.sgl_typed.specs.declared.script.TTest.{TTest}
use Rattle.battle_algebra.specs.Ways.{attr_of, is_equal_test, number_of}

-- the test is that the key equals a value
abbrev pub is_key_test : TTest → Bool
is_key_test test = is_equal_test test && (number_of (attr_of test) == 0)

-- the right side of the first such test
abbrev pub key_asked : (TTest → ℤ) → List TTest → Option ℤ
key_asked right [] = None
key_asked right (test ∷ tests) = if is_key_test test then Some (right test) else key_asked right tests

-- the row with this number, or none
abbrev pub rows_in : World → Option ℕ → List Row
rows_in world None = []
rows_in world (Some row) = row_at world row ∷ []
