-- When a row is added, and when it is refused.
use Rattle.std.specs.Prelude.{◌≡◌, ℕ, ◌+◌, ◌<◌, ◌≤◌, length}
use Rattle.sgl_values.specs.World.{World, row_at, KeysRise}
use Rattle.env_table.specs.Table.{Building, Table}
use Rattle.env_table.specs.declared.builder.PushFault.{PushFault}
use Rattle.env_table.specs.declared.builder.PushFault.TheVariants.{Full, Key, Memory}
use Rattle.sgl_values.specs.declared.limit.TheConstants.{ROWS_MAX}

-- there is place for one more row, and this key is above the last one
pub record IsAccepted (world : World) (key : ℕ) : Type 0 where
  pub few : length world.rows < ROWS_MAX
  pub above : world.last_key < key

-- there is place for one more row, and this key is not above the last one, which is told
pub record IsKeyRefused (world : World) (key last : ℕ) : Type 0 where
  pub few : length world.rows < ROWS_MAX
  pub told : last ≡ world.last_key
  pub not_above : key ≤ last

-- what holds where a row with this key is refused with this fault
abbrev pub IsRefusedWith : Building → ℕ → PushFault → Type 0
IsRefusedWith building key Full = length building.table.world.rows ≡ ROWS_MAX
IsRefusedWith building key (Key last) = IsKeyRefused building.table.world key last
IsRefusedWith building key Memory = IsAccepted building.table.world key × (building.room ≡ 0)

-- so many rows, the first of which is above the last one, can be added without taking memory
pub record CanPushAll (building : Building) (more : Table) : Type 0 where
  pub width : building.table.width ≡ more.width
  pub few : length building.table.world.rows + length more.world.rows ≤ ROWS_MAX
  pub room : length more.world.rows ≤ building.room
  pub rising : KeysRise building.table.world.last_key more.world.rows
  pub below : building.table.world.last_key ≤ more.world.last_key

-- Rows for the lanes from one to before the end can be added without taking memory: their keys, which are those of the rows of a
-- world from the first one on, are above the last one.
pub record CanPushLanes (building : Building) (world : Table) (first lane end width : ℕ) : Type 0 where
  pub wide : building.table.width ≡ width
  pub lanes : end ≤ 64
  pub inside : first + end ≤ length world.world.rows
  pub few : length building.table.world.rows + end ≤ ROWS_MAX + lane
  pub room : end ≤ building.room + lane
  pub above : (k : ℕ) → lane ≤ k → k < end → building.table.world.last_key < (row_at world.world (first + k)).key
