-- The tests that strips of two attributes leave to be asked of each row.
use Rattle.std.specs.Prelude.{◌≡◌, ℕ, suc, ◌<◌, ◌||◌, Bool, true, false, List, [], length, get_or, take, drop, Option}
use Rattle.std.specs.List.{list_all}
use Rattle.sgl_typed.specs.declared.script.Attr.{Attr}
use Rattle.sgl_typed.specs.declared.script.TTest.{TTest}
use Rattle.battle_algebra.specs.Ways.{is_along, is_circle, is_unequal_test}
use Rattle.test_boxes.specs.Readings.{grouping, groups_by}
use Rattle.test_boxes.specs.declared.reading.Reading.{Reading}
use Rattle.test_boxes.specs.declared.reading.Reading.TheVariants.{Away, Alike}
use Rattle.index_set.specs.declared.left.Left.{Left}
use Rattle.index_set.specs.declared.left.Left.TheVariants.{Nothing, One, Others, All}

-- a strip stands for the test: it numbers groups, or is a range test of one of the two attributes
abbrev pub is_told : Option Attr → Option Attr → TTest → Bool
is_told axis across test = groups_by Away test || (is_along axis test || is_along across test)

-- no strip says anything of the test
abbrev pub is_free : TTest → Bool
is_free test = is_unequal_test test || is_circle test

-- a strip stands for all tests but the one with this number
pub record IsSole (axis across : Option Attr) (tests : List TTest) (number : ℕ) : Type 0 where
  pub within : number < length tests
  pub free : (none : TTest) → is_free (get_or tests number none) ≡ true
  pub before : list_all (is_told axis across) (take number tests) ≡ true
  pub after : list_all (is_told axis across) (drop (suc number) tests) ≡ true

-- no test is equal, and a strip stands for all but one unequal test
pub record IsOthers (axis across : Option Attr) (tests : List TTest) : Type 0 where
  pub number : ℕ
  pub sole : IsSole axis across tests number
  pub unequal : (none : TTest) → is_unequal_test (get_or tests number none) ≡ true
  pub alone : grouping Away tests ≡ []

-- strips of all groups but one stand for all tests
abbrev pub is_others : Left → Bool
is_others Nothing = false
is_others (One number) = false
is_others Others = true
is_others All = false

-- how an unequal test is read for the groups whose strips leave these tests
abbrev pub how_left : Left → Reading
how_left Nothing = Away
how_left (One number) = Away
how_left Others = Alike
how_left All = Away

-- a strip stands for the tests that are not left
abbrev pub IsLeft : Left → Option Attr → Option Attr → List TTest → Type 0
IsLeft Nothing axis across tests = list_all (is_told axis across) tests ≡ true
IsLeft (One number) axis across tests = IsSole axis across tests number
IsLeft Others axis across tests = IsOthers axis across tests
IsLeft All axis across tests = Unit {0}
