-- The environment table: a world, with what is known of it beside the rows.
use Rattle.std.specs.Prelude.{ℕ, zero, suc, ◌+◌, ◌-◌, ◌≤◌, ◌==◌, ℤ, pos, Bool, List, [], ◌∷◌, ◌++◌, length, map, slice_index_or, if◌then◌else◌}
use Rattle.std.specs.Int.{bit_at}
use Rattle.sgl_values.specs.World.{World, row_at, IsWorld}
use Rattle.sgl_values.specs.declared.limit.TheConstants.{CONSTS_MAX}

-- a world, and the number of values in each of its rows
pub record Table : Type 0 where
  pub width : ℕ
  pub world : World

-- what every table meets
pub record IsTable (table : Table) : Type 0 where
  pub narrow : table.width ≤ CONSTS_MAX
  pub fits : IsWorld table.width table.world

-- A table to which rows are added, and the number of rows that it has room for. Its last key is that of the last row that
-- was added, or of the table whose rows were added last, and 0 where none was.
pub record Building : Type 0 where
  pub table : Table
  pub room : ℕ

-- the one without rows
abbrev pub empty_building : ℕ → ℕ → ℕ → Building
empty_building tick width room = record { table = record { width = width; world = record { tick = tick; last_key = 0; rows = [] } }; room = room }

-- a world with one more row, behind the last
abbrev pub with_row_behind : World → ℕ → List ℤ → World
with_row_behind world key values = record { tick = world.tick; last_key = key; rows = world.rows ++ record { key = key; values = values } ∷ [] }

-- the same of a table to which rows are added, which has room for one row less then
abbrev pub with_row : Building → ℕ → List ℤ → Building
with_row building key values = record {
  table = record { width = building.table.width; world = with_row_behind building.table.world key values };
  room = building.room - 1;
}

-- the same where it is to be added
abbrev pub with_row_if : Bool → Building → ℕ → List ℤ → Building
with_row_if put building key values = if put then with_row building key values else building

-- the numbers of a lane, of which each column has one
abbrev pub numbers_in : List (List ℤ) → ℕ → List ℤ
numbers_in columns lane = map (λ column. slice_index_or column lane (pos 0)) columns

-- A table with a row behind the last for each of the first lanes, so many, that is in a set. It has the key of the row of a world
-- that stands as far behind the first one, and the numbers of its lane.
abbrev pub with_lanes : Building → World → ℕ → List (List ℤ) → ℕ → ℕ → Building
with_lanes building world first columns lanes zero = building
with_lanes building world first columns lanes (suc lane) =
    with_row_if (bit_at lanes lane == 1) (with_lanes building world first columns lanes lane) (row_at world (first + lane)).key (numbers_in columns lane)

-- the same for all lanes from one on, so many
abbrev pub with_run : Building → World → ℕ → List (List ℤ) → ℕ → ℕ → Building
with_run building world first columns lane zero = building
with_run building world first columns lane (suc count) =
    with_row (with_run building world first columns lane count) (row_at world (first + (lane + count))).key (numbers_in columns (lane + count))

-- the same with all rows of a table behind the last, and with the last key of that table
abbrev pub with_rows : Building → Table → Building
with_rows building more = record {
  table = record {
    width = building.table.width;
    world = record { tick = building.table.world.tick; last_key = more.world.last_key; rows = building.table.world.rows ++ more.world.rows };
  };
  room = building.room - length more.world.rows;
}

-- the table with this last key
abbrev pub with_last_key : Table → ℕ → Table
with_last_key table last_key = record {
  width = table.width;
  world = record { tick = table.world.tick; last_key = last_key; rows = table.world.rows };
}
