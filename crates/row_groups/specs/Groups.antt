-- The rows of a world in groups.
use Rattle.std.specs.Prelude.{◌≡◌, ℕ, ℤ, ◌<◌, ◌≤◌, All, Bool, List, [], filter, length, slice_index_or, Option, None, Some}
use Rattle.std.specs.BTreeMap.{is_at}
use Rattle.std.specs.Cmp.Lexicographic.{slice_cmp}
use Rattle.std.specs.List.{range_with_len, sum_by}
use Rattle.std.specs.Map.{lookup}
use Rattle.std.specs.Ordering.{int_cmp}
use Rattle.sgl_values.specs.World.{Row}
use Rattle.sgl_typed.specs.declared.script.Attr.{Attr}
use Rattle.row_groups.specs.Keys.{has_key}
use Rattle.row_groups.specs.Places.{places}
use Rattle.sgl_values.specs.declared.limit.TheConstants.{ROWS_MAX}

-- the attributes by whose values rows are in groups, how many rows there are, the keys with the numbers of their groups, and
-- the rows of each group
pub record Grouping : Type 0 where
  pub attrs : List Attr
  pub rows : ℕ
  pub keys : List (List ℤ × ℕ)
  pub lists : List (List ℕ)

-- the number of the group with a key
abbrev pub number_of : Grouping → List ℤ → Option ℕ
number_of groups key = lookup (is_at (slice_cmp int_cmp key)) groups.keys

-- the rows of a group
abbrev pub rows_in : Grouping → ℕ → List ℕ
rows_in groups group = slice_index_or groups.lists group []

-- the rows of a group that may be missing
abbrev pub rows_if : List (List ℕ) → Option ℕ → List ℕ
rows_if lists None = []
rows_if lists (Some group) = slice_index_or lists group []

-- the rows with this key
abbrev pub rows_under : Grouping → List ℤ → List ℕ
rows_under groups key = rows_if groups.lists (number_of groups key)

-- each of so many rows is in one of the lists, and there once: of those that pass there are as many as in the lists in all
abbrev pub AreWhole : List (List ℕ) → ℕ → Type 0
AreWhole lists count = (passes : ℕ → Bool) → sum_by (λ group. length (filter passes (slice_index_or lists group []))) (range_with_len 0 (length lists))
    ≡ length (filter passes (range_with_len 0 count))

-- under each key, also one that no row has, the rows of which these attributes have the values
pub record IsGroups (groups : Grouping) (attrs : List Attr) (rows : List Row) : Type 0 where
  pub by : groups.attrs ≡ attrs
  pub held : (key : List ℤ) → rows_under groups key ≡ places (has_key attrs key) rows 0
  pub count : groups.rows ≡ length rows
  pub few : length rows ≤ ROWS_MAX
  pub few_groups : length groups.lists ≤ ROWS_MAX
  pub inside : (key : List ℤ) (group : ℕ) → number_of groups key ≡ Some group → group < length groups.lists
  pub within : (group : ℕ) → All (λ row. row < length rows) (rows_in groups group)
  pub whole : AreWhole groups.lists (length rows)
