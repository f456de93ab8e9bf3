-- Rows by the values of a few attributes, and the numbers of such keys.
use Rattle.std.specs.Prelude.{◌≡◌, ℕ, ℤ, pos, ◌<◌, ◌≤◌, Bool, All, List, [], ◌∷◌, length, map, slice_index_or, Option, None, Some, IsSome}
use Rattle.std.specs.BTreeMap.{BTreeMap, get, btree_map_len}
use Rattle.std.specs.Cmp.Lexicographic.{slice_cmp, pointwise}
use Rattle.std.specs.Ordering.{int_cmp, int_eq}
use Rattle.sgl_values.specs.World.{Row}
use Rattle.sgl_typed.specs.declared.script.Attr.{Attr}
use Rattle.sgl_typed.specs.Value.{attribute}

-- the first four values, and 0 in the place of each that is missing
abbrev pub four_of : List ℤ → List ℤ
four_of zs = slice_index_or zs 0 (pos 0) ∷ slice_index_or zs 1 (pos 0) ∷ slice_index_or zs 2 (pos 0) ∷ slice_index_or zs 3 (pos 0) ∷ []

-- the values of these attributes of a row
abbrev pub row_values : List Attr → Row → List ℤ
row_values attrs row = map (λ attr. attribute attr row) attrs

-- the row has this key
abbrev pub has_key : List Attr → List ℤ → Row → Bool
has_key attrs key row = pointwise int_eq (four_of (row_values attrs row)) key

-- the value of an attribute of a row, and 0 where none is named
abbrev pub along : Option Attr → Row → ℤ
along None row = pos 0
along (Some attr) row = attribute attr row

-- each of the keys has a number, below the number of those that have one, and no two have the same
pub record IsNumbering (numbers : BTreeMap (List ℤ) ℕ) (keys : List (List ℤ)) : Type 0 where
  pub numbered : All (λ key. IsSome (get (slice_cmp int_cmp) numbers key)) keys
  pub few : btree_map_len numbers ≤ length keys
  pub below : (key : List ℤ) (number : ℕ) → get (slice_cmp int_cmp) numbers key ≡ Some number → number < btree_map_len numbers
  pub apart : (key other : List ℤ) (number : ℕ) → get (slice_cmp int_cmp) numbers key ≡ Some number → get (slice_cmp int_cmp) numbers other ≡ Some number → key ≡ other
