-- A row behind `post`, and the next world so far.
use Rattle.std.specs.Prelude.{◌≡◌, ℕ, ℤ, ◌+◌, ◌*◌, ◌<◌, ◌≤◌, min, Bool, true, false, List, [], ◌∷◌, length, Option, Some, None, Result, Ok, Err}
use Rattle.sgl_values.specs.ItemOrder.{fault_cmp}
use Rattle.sgl_values.specs.Least.{least_of}
use Rattle.sgl_values.specs.World.{KeysRise, KeysUpTo}
use Rattle.sgl_values.specs.declared.fault.Fault.{Fault}
use Rattle.sgl_typed.specs.declared.tick_fault.TickFault.{TickFault}
use Rattle.sgl_typed.specs.Tick.{Posted, keys_fault, post_fault, post_fault_or, rows_left, units_fault}
use Rattle.env_table.specs.Table.{Table, Building, with_row_if}
use Rattle.tick_postprocess.specs.Answer.{told}
use Rattle.tick_postprocess.specs.declared.fault.PostFault.{PostFault}
use Rattle.tick_postprocess.specs.declared.rules.Fate.{Fate}
use Rattle.tick_postprocess.specs.declared.next_world.Counts.{Counts}
use Rattle.sgl_values.specs.declared.limit.TheConstants.{ROWS_MAX}

-- 1 where it is so, and else 0
abbrev pub bit : Bool → ℕ
bit true = 1
bit false = 0

-- a fault, or else what becomes of the row
abbrev pub fate_or : Option Fault → Bool → Bool → Result Fate Fault
fate_or (Some fault) stays spawns = Err fault
fate_or None stays spawns = Ok record { stays = stays; spawns = spawns }

-- what is told of a row: its least fault, or whether it stays and has a child, beside its new values and those of the child
abbrev pub Tells : Posted → Result Fate Fault → List ℤ → List ℤ → Type 0
Tells p (Err fault) values child = least_of fault_cmp p.faults ≡ Some fault
Tells p (Ok fate) values child =
    (least_of fault_cmp p.faults ≡ None) × (fate.stays ≡ p.stays) × (fate.spawns ≡ p.spawns) × (values ≡ p.row.values) × (p.spawns ≡ true → child ≡ p.child)

-- the same without the values of the child
abbrev pub TellsFate : Posted → Result Fate Fault → List ℤ → Type 0
TellsFate p (Err fault) values = least_of fault_cmp p.faults ≡ Some fault
TellsFate p (Ok fate) values = (least_of fault_cmp p.faults ≡ None) × (fate.stays ≡ p.stays) × (fate.spawns ≡ p.spawns) × (values ≡ p.row.values)

-- a row is put into the next world where it stays, or its least fault is told
abbrev pub Puts : Posted → Building → Result Fate PostFault → Building → Type 0
Puts p old (Err fault) new = post_fault_or p.row.key (least_of fault_cmp p.faults) None ≡ Some (told fault)
Puts p old (Ok fate) new = (least_of fault_cmp p.faults ≡ None) × (fate.spawns ≡ p.spawns) × (new ≡ with_row_if p.stays old p.row.key p.row.values)

-- how many rows a row adds: one where it stays
abbrev pub stay_of : Result Fate PostFault → ℕ
stay_of (Err fault) = 0
stay_of (Ok fate) = bit fate.stays

-- a row has a child
abbrev pub has_child : Result Fate Fault → Bool
has_child (Err fault) = false
has_child (Ok fate) = fate.spawns

-- the child of a row, where it has one, is put into the next world with this key
abbrev pub Bears : Posted → ℕ → Building → Bool → Building → Type 0
Bears p key old born new = (born ≡ p.spawns) × (new ≡ with_row_if p.spawns old key p.child)

-- a row with this key, of so many values, can be added without taking memory
pub record CanPush (building : Building) (key width : ℕ) : Type 0 where
  pub width_is : building.table.width ≡ width
  pub few : length building.table.world.rows < ROWS_MAX
  pub above : building.table.world.last_key < key
  pub room : 0 < building.room

-- the keys rise from above this one, and none is above the last key
pub record IsRising (low : ℕ) (building : Building) : Type 0 where
  pub rising : KeysRise low building.table.world.rows
  pub up_to : KeysUpTo building.table.world.last_key building.table.world.rows

-- a next world to which so many rows are added, none or one with this key
pub record Grows (old new : Building) (key more : ℕ) : Type 0 where
  pub width : new.table.width ≡ old.table.width
  pub tick : new.table.world.tick ≡ old.table.world.tick
  pub rows : length new.table.world.rows ≡ length old.table.world.rows + more
  pub room : old.room ≤ new.room + more
  pub last : new.table.world.last_key < key + more
  pub keys : (low : ℕ) → low < key → IsRising low old → IsRising low new

-- a next world without rows, of the next tick and the same width, with room for twice the rows, or for 65,536
pub record IsReady (out : Building) (world : Table) : Type 0 where
  pub empty : out.table ≡ record { width = world.width; world = record { tick = world.world.tick + 1; last_key = 0; rows = [] } }
  pub room : min (length world.world.rows * 2) ROWS_MAX ≤ out.room

-- a next world with all rows that stay, which are so many, where so many children are to be put behind them
pub record IsHalf (out : Building) (world : Table) (stay born : ℕ) : Type 0 where
  pub width : out.table.width ≡ world.width
  pub tick : out.table.world.tick ≡ world.world.tick + 1
  pub rows : length out.table.world.rows ≡ stay
  pub few : stay ≤ length world.world.rows
  pub births : born ≤ length world.world.rows
  pub last : out.table.world.last_key ≤ world.world.last_key
  pub room : min (length world.world.rows * 2) ROWS_MAX ≤ out.room + stay

-- how many of these rows have a child
abbrev pub births : List Posted → ℕ
births [] = 0
births (p ∷ ps) = bit p.spawns + births ps

-- all rows are put into an empty next world where they stay, and are counted, or the first fault is told
abbrev pub PutsAll : List Posted → Result Counts PostFault → Building → Type 0
PutsAll all (Err fault) new = post_fault all ≡ Some (told fault)
PutsAll all (Ok counts) new = (post_fault all ≡ None) × (new.table.world.rows ≡ rows_left all) × (counts.children ≡ births all)

-- the first of two refusals
abbrev pub first_of : Option TickFault → Option TickFault → Option TickFault
first_of None other = other
first_of (Some fault) other = Some fault

-- too few keys, or too many units
abbrev pub shortage_of : ℕ → ℕ → ℕ → Option TickFault
shortage_of last stay children = first_of (keys_fault last children) (units_fault (stay + children))
