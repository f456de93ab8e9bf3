-- Laws of scripts, values and ticks.
use Rattle.std.specs.Prelude.{◌≡◌, ℕ, ◌+◌, ◌*◌, ◌<◌, ◌≤◌, pos, Bool, true, List, [], ◌∷◌, ◌++◌, length, map, take, slice_get, slice_index_or, Some, Ok, Err}
use Rattle.std.specs.List.{All, Contains}
use Rattle.sgl_values.specs.World.{Row, World, KeysRise, KeysUpTo}
use Rattle.sgl_values.specs.declared.fault.Val.{Val}
use Rattle.sgl_values.specs.declared.fault.Val.TheVariants.{N}
use Rattle.sgl_typed.specs.declared.script.TExpr.{TExpr}
use Rattle.sgl_typed.specs.declared.script.TScript.{TScript}
use Rattle.sgl_typed.specs.declared.tick_fault.TickFault.{TickFault}
use Rattle.sgl_typed.specs.Items.{items_of, task_items}
use Rattle.sgl_typed.specs.Reads.{below, reads_only, all_use}
use Rattle.sgl_typed.specs.Tick.{tick, worlds}
use Rattle.sgl_typed.specs.Value.{Calls, Context, value_with}
use Rattle.sgl_values.specs.declared.limit.TheConstants.{ROWS_MAX, TASK_ROWS}

-- every script uses only its own slots
abbrev pub ScriptsUseOwnSlots : Type 0
ScriptsUseOwnSlots = (script : TScript) → all_use script.main (below script.slots) ≡ true

-- slots that agree where a test passes
pub record AgreeOn (passes : ℕ → Bool) (slots others : List Val) : Type 0 where
  pub agree : (slot : ℕ) → passes slot ≡ true → slice_index_or slots slot (N (pos 0)) ≡ slice_index_or others slot (N (pos 0))

-- the value of an expression depends only on the slots that it reads
abbrev pub ValuesReadSlots : Type 0
ValuesReadSlots = (e : TExpr) (passes : ℕ → Bool) (calls : Calls) (c : Context) (slots others : List Val)
    → reads_only e passes ≡ true → AgreeOn passes slots others
    → value_with calls (record c { slots = slots }) e ≡ value_with calls (record c { slots = others }) e

-- the items of units that are joined are those of the one and then of the other
abbrev pub ItemsOfJoinedUnits : Type 0
ItemsOfJoinedUnits = (script : TScript) (world : World) (seed : ℕ) (units more : List Row)
    → items_of script world seed (units ++ more) ≡ items_of script world seed units ++ items_of script world seed more

-- the items of the rows before a task, and then those of the task, are those of the rows before the next one
abbrev pub ItemsOfTasks : Type 0
ItemsOfTasks = (script : TScript) (world : World) (seed task : ℕ)
    → items_of script world seed (take (task * TASK_ROWS) world.rows) ++ task_items script world seed task
    ≡ items_of script world seed (take ((task + 1) * TASK_ROWS) world.rows)

-- the keys of rows
abbrev pub keys : List Row → List ℕ
keys = map (λ row. row.key)

-- the keys count up behind this one
abbrev pub KeysCountUp : ℕ → List Row → Type 0
KeysCountUp last [] = Unit {0}
KeysCountUp last (row ∷ rows) = (row.key ≡ last + 1) × KeysCountUp (last + 1) rows

-- the rows of a next world: units of the old one, and then children, which have the keys behind the last key
pub record OldAndNew (world next : World) : Type 0 where
  pub old : List Row
  pub children : List Row
  pub rows : next.rows ≡ old ++ children
  pub among : (key : ℕ) → Contains (keys old) key → Contains (keys world.rows) key
  pub count_up : KeysCountUp world.last_key children
  pub last : next.last_key ≡ world.last_key + length children

-- a world that may follow another one
pub record Follows (world next : World) : Type 0 where
  pub numbered : next.tick ≡ world.tick + 1
  pub parts : OldAndNew world next
  pub last_rises : world.last_key ≤ next.last_key
  pub last_fits : next.last_key ≤ 4294967295
  pub few : length next.rows ≤ ROWS_MAX
  pub up_to : KeysUpTo world.last_key world.rows → KeysUpTo next.last_key next.rows
  pub rising : KeysUpTo world.last_key world.rows → KeysRise 0 world.rows → KeysRise 0 next.rows
  pub width : (width : ℕ) → All (λ row. length row.values ≡ width) world.rows → All (λ row. length row.values ≡ width) next.rows

-- the next world follows the old one
abbrev pub NextWorldFollows : Type 0
NextWorldFollows = (script : TScript) (world : World) (seed limit : ℕ) (next : World) → tick script world seed limit ≡ Ok next → Follows world next

-- each world of a run but the last is followed by the next world of its tick, where that is none there is a refusal
pub record RunsAreTicks : Type 0 where
  pub first : (script : TScript) (world : World) (seed limit ticks : ℕ) → slice_get (worlds script world seed limit ticks).worlds 0 ≡ Some world
  pub next : (script : TScript) (world : World) (seed limit ticks t : ℕ) (old next : World) → t < ticks
      → slice_get (worlds script world seed limit ticks).worlds t ≡ Some old → tick script old seed limit ≡ Ok next
      → slice_get (worlds script world seed limit ticks).worlds (t + 1) ≡ Some next
  pub refused : (script : TScript) (world : World) (seed limit ticks t : ℕ) (old : World) (fault : TickFault) → t < ticks
      → slice_get (worlds script world seed limit ticks).worlds t ≡ Some old → tick script old seed limit ≡ Err fault
      → (length (worlds script world seed limit ticks).worlds ≡ t + 1) × ((worlds script world seed limit ticks).end ≡ Some fault)
