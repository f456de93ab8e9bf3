-- The unequal test of tests that have one, by whose value rows are left out.
use Rattle.std.specs.Prelude.{ℤ, not, Bool, true, List, [], ◌∷◌, Option, Some, None, if◌then◌else◌}
use Rattle.std.specs.Ordering.{int_eq}
use Rattle.sgl_typed.specs.declared.script.Attr.{Attr}
use Rattle.sgl_typed.specs.declared.script.TTest.{TTest}
use Rattle.battle_algebra.specs.Ways.{attr_of, is_unequal_test}

-- the attribute of the first unequal test
abbrev pub other_of : List TTest → Option Attr
other_of [] = None
other_of (test ∷ tests) = if is_unequal_test test then Some (attr_of test) else other_of tests

-- its right side
abbrev pub other_asked : (TTest → ℤ) → List TTest → Option ℤ
other_asked right [] = None
other_asked right (test ∷ tests) = if is_unequal_test test then Some (right test) else other_asked right tests

-- a value is not the one that is left out
abbrev pub is_unlike : Option ℤ → ℤ → Bool
is_unlike None v = true
is_unlike (Some z) v = not (int_eq v z)
