-- The arrays in which the code keeps the lists.
use Rattle.std.specs.Prelude.{◌≡◌, ◌≢◌, ℕ, zero, suc, ◌+◌, ◌<◌, ◌≤◌, nat_lt, if◌then◌else◌, List, [], ◌∷◌, length, map, drop, AllPairs, Contains, Option, Some, None, slice_set, slice_index, slice_index_or}
use Rattle.cell_links.specs.Links.{Links}
use Rattle.cell_links.specs.declared.circles.Circles.{Circles}
use Rattle.sgl_values.specs.declared.limit.TheConstants.{ROWS_MAX}

-- the rows from a node on along the next ones, up to the node of a group, and at most so many
abbrev pub walk : ℕ → ℕ → List ℕ → ℕ → List ℕ
walk zero rows next node = []
walk (suc far) rows next node = if nat_lt node rows then node ∷ walk far rows next (slice_index next node) else []

-- the lists that the arrays hold: the nodes of groups stand behind those of rows
abbrev pub lists_of : ℕ → List ℕ → List (List ℕ)
lists_of rows next = map (walk rows rows next) (drop rows next)

abbrev pub links_of : Circles → Links
links_of circles = record { rows = circles.rows; lists = lists_of circles.rows circles.next.items }

-- the nodes lead through these rows from one node to another, and back
abbrev pub Path : List ℕ → List ℕ → ℕ → List ℕ → ℕ → Type 0
Path next previous from [] to = (slice_index next from ≡ to) × (slice_index previous to ≡ from)
Path next previous from (row ∷ rows) to = (slice_index next from ≡ row) × (slice_index previous row ≡ from) × Path next previous row rows to

-- the arrays hold these lists, each as a circle through the node of its group
pub record Holds (rows : ℕ) (next previous : List ℕ) (groups : List (Option ℕ)) (lists : List (List ℕ)) : Type 0 where
  pub few : rows ≤ ROWS_MAX
  pub few_groups : length lists ≤ ROWS_MAX
  pub next_full : length next ≡ rows + length lists
  pub previous_full : length previous ≡ rows + length lists
  pub groups_full : length groups ≡ rows
  pub circles : (group : ℕ) → group < length lists → Path next previous (rows + group) (slice_index_or lists group []) (rows + group)
  pub in_group : (group row : ℕ) → slice_index_or groups row None ≡ Some group → Contains (slice_index_or lists group []) row
  pub grouped : (group row : ℕ) → Contains (slice_index_or lists group []) row → slice_index_or groups row None ≡ Some group
  pub once : (group : ℕ) → AllPairs (λ row other. row ≢ other) (slice_index_or lists group [])

-- what the arrays of all lists meet
abbrev pub IsStored : Circles → Type 0
IsStored circles = Holds circles.rows circles.next.items circles.previous.items circles.groups.items (links_of circles).lists

-- two nodes stand one behind the other, and nothing else is changed
pub record Ties (old new : Circles) (before after : ℕ) : Type 0 where
  pub rows : new.rows ≡ old.rows
  pub next : new.next.items ≡ slice_set old.next.items before after
  pub previous : new.previous.items ≡ slice_set old.previous.items after before
  pub groups : new.groups.items ≡ old.groups.items
