-- Rows in groups: for each group the list of its rows.
use Rattle.std.specs.Prelude.{◌≡◌, ◌≢◌, ℕ, ◌<◌, ◌≤◌, ◌==◌, not, List, [], ◌∷◌, ◌++◌, length, All, AllPairs, Contains, filter, map, replicate, slice_set, slice_index_or, Option, Some, None}
use Rattle.sgl_values.specs.declared.limit.TheConstants.{ROWS_MAX}

-- the number of rows, and the rows of each group in their order
pub record Links : Type 0 where
  pub rows : ℕ
  pub lists : List (List ℕ)

-- the rows of a group
abbrev pub rows_of : Links → ℕ → List ℕ
rows_of links group = slice_index_or links.lists group []

-- the row is in the list of some group
abbrev pub IsLinked : Links → ℕ → Type 0
IsLinked links row = (group : ℕ) × Contains (rows_of links group) row

-- what all lists meet: each row is in at most one of them, and there once
pub record IsLinks (links : Links) : Type 0 where
  pub few : links.rows ≤ ROWS_MAX
  pub few_groups : length links.lists ≤ ROWS_MAX
  pub within : (group : ℕ) → All (λ row. row < links.rows) (rows_of links group)
  pub one_list : (group other row : ℕ) → Contains (rows_of links group) row → Contains (rows_of links other) row → group ≡ other
  pub once : (group : ℕ) → AllPairs (λ row other. row ≢ other) (rows_of links group)

-- groups without rows
abbrev pub empty_links : ℕ → ℕ → Links
empty_links rows groups = record { rows = rows; lists = replicate groups [] }

-- a row is put behind the others of a group
abbrev pub with_row : Links → ℕ → ℕ → Links
with_row links row group = record { rows = links.rows; lists = slice_set links.lists group (rows_of links group ++ row ∷ []) }

-- a row is taken out
abbrev pub without : ℕ → List ℕ → List ℕ
without row rows = filter (λ other. not (other == row)) rows

abbrev pub without_row : Links → ℕ → Links
without_row links row = record { rows = links.rows; lists = map (without row) links.lists }

-- the group of a row, and none where it is in no list
abbrev pub IsGroupOf : Links → ℕ → Option ℕ → Type 0
IsGroupOf links row (Some group) = Contains (rows_of links group) row
IsGroupOf links row None = ¬ IsLinked links row
