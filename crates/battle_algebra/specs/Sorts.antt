-- The sorts of tests that are counted.
use Rattle.std.specs.Prelude.{Bool}
use Rattle.sgl_typed.specs.declared.script.TTest.{TTest}
use Rattle.battle_algebra.specs.Ways.{is_equal_test, is_unequal_test, is_circle}
use Rattle.battle_algebra.specs.declared.bounds.Sort.{Sort}
use Rattle.battle_algebra.specs.declared.bounds.Sort.TheVariants.{Equal, Unequal, Circle}

-- the test is of the sort
abbrev pub is_of_sort : Sort → TTest → Bool
is_of_sort Equal test = is_equal_test test
is_of_sort Unequal test = is_unequal_test test
is_of_sort Circle test = is_circle test
