-- The arrays in which the code keeps a table.
use Rattle.std.specs.Prelude.{◌≡◌, ℕ, ◌+◌, ◌-◌, ◌*◌, ◌<◌, ◌≤◌, ℤ, pos, slice_index_or, List, [], ◌∷◌, ◌++◌, length, take, drop, All, unsigned_abs, vec_len, vec_capacity}
use Rattle.sgl_values.specs.World.{Row}
use Rattle.env_table.specs.Table.{Table, IsTable}
use Rattle.env_table.specs.declared.arrays.Arrays.{Arrays}
use Rattle.sgl_values.specs.declared.limit.TheConstants.{ROWS_MAX}

-- the rows with these keys, where the values of all of them stand one behind the other
abbrev pub rows_of : List ℕ → ℕ → List ℤ → List Row
rows_of [] width values = []
rows_of (key ∷ keys) width values = record { key = key; values = take width values } ∷ rows_of keys width (drop width values)

abbrev pub table_of : Arrays → Table
table_of a = record { width = a.width; world = record { tick = a.tick; last_key = a.last_key; rows = rows_of a.keys.items a.width a.values.items } }

-- what the arrays of every table meet
pub record IsStored (arrays : Arrays) : Type 0 where
  pub few : length arrays.keys.items ≤ ROWS_MAX
  pub full : length arrays.values.items ≡ length arrays.keys.items * arrays.width
  pub table : IsTable (table_of arrays)

-- so many rows can be added without taking memory
pub record HasRoomFor (arrays : Arrays) (rows : ℕ) : Type 0 where
  pub keys_fit : vec_len arrays.keys + rows ≤ vec_capacity arrays.keys
  pub values_fit : vec_len arrays.values + rows * arrays.width ≤ vec_capacity arrays.values

-- one row can be added without taking memory
pub record HasRoomForRow (arrays : Arrays) : Type 0 where
  pub key_fits : vec_len arrays.keys + 1 ≤ vec_capacity arrays.keys
  pub values_fit : vec_len arrays.values + arrays.width ≤ vec_capacity arrays.values

-- the rows stay as they were
pub record SameRows (old new : Arrays) : Type 0 where
  pub tick : new.tick ≡ old.tick
  pub width : new.width ≡ old.width
  pub last_key : new.last_key ≡ old.last_key
  pub keys : new.keys.items ≡ old.keys.items
  pub values : new.values.items ≡ old.values.items

-- one row of numbers is behind the others
pub record AddsRow (old new : Arrays) (key : ℕ) (vals : List ℤ) : Type 0 where
  pub numbers : All (λ z. unsigned_abs z ≤ 1000000000000) vals
  pub tick : new.tick ≡ old.tick
  pub width : new.width ≡ old.width
  pub last_key : new.last_key ≡ key
  pub keys : new.keys.items ≡ old.keys.items ++ key ∷ []
  pub values : new.values.items ≡ old.values.items ++ vals

-- the rows of others are behind these, with the last key of those
pub record AddsRows (old new more : Arrays) : Type 0 where
  pub tick : new.tick ≡ old.tick
  pub width : new.width ≡ old.width
  pub last_key : new.last_key ≡ more.last_key
  pub keys : new.keys.items ≡ old.keys.items ++ more.keys.items
  pub values : new.values.items ≡ old.values.items ++ more.values.items

-- Rows with these keys are behind the others, and the last of them gives the last key. The numbers of each stand in a lane of all
-- columns, from a first lane on.
pub record AddsLanes (old new : Arrays) (more : List ℕ) (lane : ℕ) (columns : List (List ℤ)) : Type 0 where
  pub numbers : All (λ z. unsigned_abs z ≤ 1000000000000) new.values.items
  pub tick : new.tick ≡ old.tick
  pub width : new.width ≡ old.width
  pub last_key : new.last_key ≡ slice_index_or more (length more - 1) 0
  pub keys : new.keys.items ≡ old.keys.items ++ more
  pub long : length new.values.items ≡ length old.values.items + length more * old.width
  pub before : (i : ℕ) (d : ℤ) → i < length old.values.items → slice_index_or new.values.items i d ≡ slice_index_or old.values.items i d
  pub values : (k a : ℕ) (d : ℤ) → k < length more → a < old.width
      → slice_index_or new.values.items (length old.values.items + (k * old.width + a)) d ≡ slice_index_or (slice_index_or columns a []) (lane + k) (pos 0)

-- the memory that is taken stays, or grows
pub record NoLessRoom (old new : Arrays) : Type 0 where
  pub keys : vec_capacity old.keys ≤ vec_capacity new.keys
  pub values : vec_capacity old.values ≤ vec_capacity new.values
