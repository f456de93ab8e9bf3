-- What is kept: points by row, the rows by rising key, and each of these in the list of its point's cell.
use Rattle.std.specs.Prelude.{◌≡◌, ◌≢◌, ℕ, ◌<◌, ◌≤◌, List, ◌++◌, length, map, AllPairs, Contains, slice_index_or, vec_capacity}
use Rattle.std.specs.List.{range_with_len}
use Rattle.std.specs.List.Sorted.{IsPermutation}
use Rattle.cell_links.specs.Links.{IsLinked, rows_of}
use Rattle.cell_keep.specs.declared.held.Held.{Held}
use Rattle.cell_keep.specs.declared.point.KeepPoint.{KeepPoint}
use Rattle.cell_keep.specs.Grid.{cell_of, list_of}
use Rattle.cell_keep.specs.Rows.{no_point, points_at}
use Rattle.sgl_values.specs.declared.limit.TheConstants.{ROWS_MAX}

-- each key is below those of later points
abbrev pub KeysRise : List KeepPoint → Type 0
KeysRise points = AllPairs (λ point later. point.key < later.key) points

-- the point of a row
abbrev pub point_at : List KeepPoint → ℕ → KeepPoint
point_at points row = slice_index_or points row no_point

-- the list in which a row stands for its point
abbrev pub list_at : List KeepPoint → ℕ → ℕ
list_at points row = list_of (cell_of (point_at points row))

-- the points that are held, by rising key
abbrev pub points_of : Held → List KeepPoint
points_of held = points_at held.points.items held.order.items

-- each row in the order stands in the list of its point's cell, and no other row is in a list; the keys stand beside the rows
pub record ArePlaced (held : Held) : Type 0 where
  pub rows : held.links.rows ≡ ROWS_MAX
  pub full : length held.links.lists ≡ ROWS_MAX
  pub store : length held.points.items ≡ ROWS_MAX
  pub few : length held.order.items ≤ ROWS_MAX
  pub inside : (row : ℕ) → Contains held.order.items row → row < ROWS_MAX
  pub once : AllPairs (λ row other. row ≢ other) held.order.items
  pub placed : (row : ℕ) → Contains held.order.items row → Contains (rows_of held.links (list_at held.points.items row)) row
  pub keys : held.keys.items ≡ map (λ point. point.key) (points_of held)
  pub within : (row : ℕ) → IsLinked held.links row → Contains held.order.items row

-- what is kept of points: each row is in the order or free, and there is room for all of them in both
pub record AreKept (held : Held) (free : List ℕ) (free_room : ℕ) : Type 0 where
  pub are_placed : ArePlaced held
  pub shared : IsPermutation (held.order.items ++ free) (range_with_len 0 ROWS_MAX)
  pub rising : KeysRise (points_of held)
  pub room : ROWS_MAX ≤ vec_capacity held.order
  pub room_keys : ROWS_MAX ≤ vec_capacity held.keys
  pub room_free : ROWS_MAX ≤ free_room
