-- A list for each group, of what is made of its rows.
use Rattle.std.specs.Prelude.{◌≡◌, ℕ, ◌<◌, List, [], length, map, slice_index_or, Option, None, Some}
use Rattle.std.specs.List.Sorted.{IsPermutation}
use Rattle.sgl_values.specs.World.{Row, World, row_at}
use Rattle.row_groups.specs.Groups.{Grouping, rows_in}

-- what is made of the rows with these numbers
abbrev pub made_of : {A : Type 0} → (Row → A) → World → List ℕ → List A
made_of make world rows = map (λ row. make (row_at world row)) rows

-- the list of a group that may be missing
abbrev pub list_if : {A : Type 0} → List (List A) → Option ℕ → List A
list_if lists None = []
list_if lists (Some group) = slice_index_or lists group []

-- the list of a group: of what is made of its rows, in no order that is told
abbrev pub IsListOf : {A : Type 0} → (Row → A) → World → Grouping → ℕ → List A → Type 0
IsListOf make world groups group list = IsPermutation (made_of make world (rows_in groups group)) list

-- so many groups have a list each, of what is made of their rows, in no order that is told
pub record AreListed {A : Type 0} (make : Row → A) (world : World) (groups : Grouping) (count : ℕ) (lists : List (List A)) : Type 0 where
  pub full : length lists ≡ count
  pub held : (group : ℕ) → group < count → IsListOf make world groups group (slice_index_or lists group [])
