-- Runs of the rows of a world behind `post`.
use Rattle.std.specs.Prelude.{◌≡◌, ℕ, zero, suc, ◌+◌, ◌≤◌, List, [], ◌++◌, length, map, drop, Option, Some, None, Result, Ok, Err}
use Rattle.std.specs.Option.{option_map}
use Rattle.sgl_values.specs.World.{Row, World, row_at}
use Rattle.sgl_values.specs.declared.item.Item.{Item}
use Rattle.sgl_typed.specs.declared.script.TScript.{TScript}
use Rattle.sgl_typed.specs.Tick.{CombinedRow, Posted, cell_fault, combined_from, post_fault, posted, rows_left}
use Rattle.env_table.specs.Table.{Table, Building}
use Rattle.tick_postprocess.specs.Answer.{told, AreWords}
use Rattle.tick_postprocess.specs.Rows.{births, first_of, IsRising}
use Rattle.tick_postprocess.specs.declared.fault.PostFault.{PostFault}
use Rattle.tick_postprocess.specs.declared.fault.PostFault.TheVariants.{Cell, Script, KeysSpent, UnitsFull}
use Rattle.tick_postprocess.specs.declared.row.Ending.{Ending}
use Rattle.tick_postprocess.specs.declared.next_world.Counts.{Counts}

-- all rows of a world behind `post`, with the cells of these items
abbrev pub posted_rows : TScript → World → ℕ → List Item → List Posted
posted_rows script world seed items = map (posted script world seed) (combined_from script items 0 world.rows)

-- the key of the row before the one with this number, and 0 where there is none
abbrev pub key_before : World → ℕ → ℕ
key_before world zero = 0
key_before world (suc number) = (row_at world number).key

-- a run of rows of a world: from the first one to before the end
pub record IsRun (world : World) (first end : ℕ) : Type 0 where
  pub order : first ≤ end
  pub inside : end ≤ length world.rows

-- a next world without rows, of the width of a world, with room for the rows of a run
pub record IsRoom (world : Table) (first end : ℕ) (out : Building) : Type 0 where
  pub empty : out.table.world.rows ≡ []
  pub width : out.table.width ≡ world.width
  pub last : out.table.world.last_key ≡ 0
  pub room : end ≤ first + out.room

-- a next world with the rows of a run that stay, of which so many have a child
pub record IsRunOut (world : Table) (first end : ℕ) (old : Building) (counts : Counts) (new : Building) : Type 0 where
  pub width : new.table.width ≡ world.width
  pub tick : new.table.world.tick ≡ old.table.world.tick
  pub rows : length new.table.world.rows ≡ counts.stay
  pub few : first + counts.stay ≤ end
  pub births : first + counts.children ≤ end
  pub rising : IsRising (key_before world.world first) new
  pub room : old.room ≤ new.room + counts.stay

-- The rows of a run are done: none has a fault, those of them that stay are these, and so many have a child. What is said of
-- all rows from the first of the run on is that, and what is said of those behind it.
pub record IsRunOf (all : List Posted) (first end : ℕ) (rows : List Row) (children : ℕ) : Type 0 where
  pub faults : post_fault (drop first all) ≡ post_fault (drop end all)
  pub left : rows_left (drop first all) ≡ rows ++ rows_left (drop end all)
  pub born : births (drop first all) ≡ children + births (drop end all)

-- the rows of a run are put into an empty next world where they stay, and are counted, or their first fault is told
abbrev pub PutsRun : List Posted → ℕ → ℕ → Result Counts PostFault → List Row → Type 0
PutsRun all first end (Err fault) rows = post_fault (drop first all) ≡ Some (told fault)
PutsRun all first end (Ok counts) rows = IsRunOf all first end rows counts.children

-- the first cell of a run that is outside the range is told, before those of the rows behind it
abbrev pub TellsWide : List CombinedRow → ℕ → ℕ → Option PostFault → Type 0
TellsWide all first end result = cell_fault (drop first all) ≡ first_of (option_map told result) (cell_fault (drop end all))

-- the refusal for a cell among others
abbrev pub cell_in : PostFault → Option PostFault
cell_in (Cell key attr) = Some (Cell key attr)
cell_in (Script key fault) = None
cell_in (KeysSpent last children) = None
cell_in (UnitsFull units) = None

-- it is the refusal for a cell
abbrev pub IsCell : PostFault → Type 0
IsCell fault = cell_in fault ≡ Some fault

-- the same, where that is what is told of a run
abbrev pub wide_in : Result Counts PostFault → Option PostFault
wide_in (Ok counts) = None
wide_in (Err fault) = cell_in fault

-- ---- rows that are put behind others

-- The rows of a run can be put behind others without taking memory. So far there is at most one for each row in front of the run,
-- and their keys are not above those of these rows.
pub record IsOpen (world : Table) (row end : ℕ) (out : Building) : Type 0 where
  pub width : out.table.width ≡ world.width
  pub few : length out.table.world.rows ≤ row
  pub room : end ≤ out.room + row
  pub above : out.table.world.last_key ≤ key_before world.world row

-- The rows of a run that stay are put behind others. They are so many, and so many of the run have a child. So a run that ends where
-- this one begins becomes one with it.
pub record RunsOn (e : Ending) (row end : ℕ) (old : Building) (counts : Counts) (new : Building) : Type 0 where
  pub width : new.table.width ≡ old.table.width
  pub tick : new.table.world.tick ≡ old.table.world.tick
  pub rows : length new.table.world.rows ≡ length old.table.world.rows + counts.stay
  pub few : row + counts.stay ≤ end
  pub births : row + counts.children ≤ end
  pub room : old.room ≤ new.room + counts.stay
  pub last : old.table.world.last_key ≤ key_before e.tick.world.now.world row → new.table.world.last_key ≤ key_before e.tick.world.now.world end
  pub keys : (low : ℕ) → low ≤ key_before e.tick.world.now.world row → IsRising low old → IsRising low new
  pub put : (items : List Item) → AreWords e.tick.script.now.schema.effects e.combined.now items
      → cell_fault (combined_from e.tick.script.now items 0 e.tick.world.now.world.rows) ≡ None
      → (first children : ℕ) → IsRunOf (posted_rows e.tick.script.now e.tick.world.now.world e.tick.seed items) first row old.table.world.rows children
      → IsRunOf (posted_rows e.tick.script.now e.tick.world.now.world e.tick.seed items) first end new.table.world.rows (children + counts.children)

-- the same, or the first fault of all rows from the first one of a run on that ends where this one begins
abbrev pub PutsOn : Ending → ℕ → ℕ → Building → Result Counts PostFault → Building → Type 0
PutsOn e row end old (Ok counts) new = RunsOn e row end old counts new
PutsOn e row end old (Err fault) new =
    (items : List Item) → AreWords e.tick.script.now.schema.effects e.combined.now items
    → cell_fault (combined_from e.tick.script.now items 0 e.tick.world.now.world.rows) ≡ None
    → (first children : ℕ) → IsRunOf (posted_rows e.tick.script.now e.tick.world.now.world e.tick.seed items) first row old.table.world.rows children
    → post_fault (drop first (posted_rows e.tick.script.now e.tick.world.now.world e.tick.seed items)) ≡ Some (told fault)

-- The first cell outside the range that is told beside rows: where they are done, there is none up to the next ones; else it is the
-- first up to the end.
abbrev pub TellsNext : List CombinedRow → ℕ → ℕ → ℕ → Result Counts PostFault → Type 0
TellsNext all first next end (Ok counts) = TellsWide all first next None
TellsNext all first next end (Err fault) = TellsWide all first end (cell_in fault)
