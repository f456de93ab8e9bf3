-- Rows with the numbers of their keys.
use Rattle.std.specs.Prelude.{◌≡◌, ℕ, ℤ, List, map, Some}
use Rattle.std.specs.BTreeMap.{BTreeMap, get}
use Rattle.std.specs.Cmp.Lexicographic.{slice_cmp}
use Rattle.std.specs.Option.{unwrap_or}
use Rattle.std.specs.Ordering.{int_cmp}
use Rattle.sgl_values.specs.World.{Row}
use Rattle.sgl_typed.specs.declared.script.Attr.{Attr}
use Rattle.row_groups.specs.Keys.{four_of, row_values, IsNumbering}
use Rattle.row_groups.specs.declared.numbering.Numbered.{Numbered}

-- the keys have numbers, and each place has that of its key
pub record AreKeysNumbered (all : List (List ℤ)) (numbered : Numbered) : Type 0 where
  pub keys : IsNumbering numbered.numbers all
  pub each : numbered.groups.items ≡ map (λ key. unwrap_or (get (slice_cmp int_cmp) numbered.numbers key) 0) all

-- these rows have the numbers of their keys by these attributes
abbrev pub AreNumbered : List Attr → List Row → Numbered → Type 0
AreNumbered attrs rows = AreKeysNumbered (map (λ row. four_of (row_values attrs row)) rows)

-- each key that had a number has the same
abbrev pub KeepsNumbers : BTreeMap (List ℤ) ℕ → BTreeMap (List ℤ) ℕ → Type 0
KeepsNumbers old now = (key : List ℤ) (number : ℕ) → get (slice_cmp int_cmp) old key ≡ Some number → get (slice_cmp int_cmp) now key ≡ Some number
