-- The attributes of rows that follow each other, a column each.
use Rattle.std.specs.Prelude.{◌≡◌, ◌<◌, ◌+◌, ℕ, ℤ, pos, List, [], length, slice_index_or}
use Rattle.sgl_values.specs.World.{World, row_at}
use Rattle.env_table.specs.Table.{Table}
use Rattle.sgl_lanes.specs.Lanes.{lane_of}
use Rattle.sgl_lanes.specs.declared.lane_set.TheConstants.{LANES}

-- each lane that has a row of the world, from the first one on, holds the value of an attribute
abbrev pub IsColumn : World → ℕ → ℕ → List ℤ → Type 0
IsColumn world first attr column = (k : ℕ) → k < LANES → first + k < length world.rows
    → lane_of column k ≡ slice_index_or (row_at world (first + k)).values attr (pos 0)

-- so does each column, of the attribute with its number, where the world has it
abbrev pub AreColumns : Table → ℕ → List (List ℤ) → Type 0
AreColumns world first columns = (attr : ℕ) → attr < length columns → attr < world.width
    → IsColumn world.world first attr (slice_index_or columns attr [])
