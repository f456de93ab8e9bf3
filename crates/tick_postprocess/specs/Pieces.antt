-- The rows of a world in pieces, one for each thread.
use Rattle.std.specs.Prelude.{◌≡◌, ℕ, ◌+◌, ◌≤◌, All, List, [], ◌∷◌, length, Option, Some, None, Result, IfOk}
use Rattle.sgl_values.specs.World.{KeysRise}
use Rattle.sgl_values.specs.declared.item.Item.{Item}
use Rattle.sgl_typed.specs.declared.script.TScript.{TScript}
use Rattle.sgl_typed.specs.Tick.{cell_fault, combined_from}
use Rattle.env_table.specs.Pushes.{CanPushAll}
use Rattle.env_table.specs.Table.{Table, Building, with_rows}
use Rattle.effect_combine.specs.Combined.{CellWords}
use Rattle.tick_postprocess.specs.Answer.{AreWords}
use Rattle.tick_postprocess.specs.Runs.{key_before, posted_rows, IsRoom, IsRun, PutsRun, TellsWide}
use Rattle.tick_postprocess.specs.declared.fault.PostFault.{PostFault}
use Rattle.tick_postprocess.specs.declared.next_world.Counts.{Counts}
use Rattle.tick_postprocess.specs.declared.piece.PostPiece.{PostPiece}

-- ---- before

-- there is an empty builder with room for the rows of a run
abbrev pub HasRoom : Table → ℕ → ℕ → Option Building → Type 0
HasRoom world first end None = ⊥
HasRoom world first end (Some room) = IsRoom world first end room

-- a run of the rows of a world, with an empty builder of its width that has room for them
pub record IsPiece (world : Table) (piece : PostPiece) : Type 0 where
  pub run : IsRun world.world piece.first piece.end
  pub room : HasRoom world piece.first piece.end piece.room

-- the runs are neighbours, together from this row to before that one
abbrev pub AreJoined : ℕ → ℕ → List PostPiece → Type 0
AreJoined first end [] = first ≡ end
AreJoined first end (piece ∷ pieces) = (piece.first ≡ first) × AreJoined piece.end end pieces

-- pieces of a world: one behind the other, together all rows
pub record ArePieces (world : Table) (pieces : List PostPiece) : Type 0 where
  pub each : All (IsPiece world) pieces
  pub joined : AreJoined 0 (length world.world.rows) pieces

-- a piece has the run that it had
pub record IsSameRun (old new : PostPiece) : Type 0 where
  pub first : new.first ≡ old.first
  pub end : new.end ≡ old.end

-- ---- behind `post`

-- the rows of a run that stay, in a world of their own
pub record IsRunTable (world : Table) (first end : ℕ) (counts : Counts) (made : Table) : Type 0 where
  pub width : made.width ≡ world.width
  pub rows : length made.world.rows ≡ counts.stay
  pub few : first + counts.stay ≤ end
  pub births : first + counts.children ≤ end
  pub rising : KeysRise (key_before world.world first) made.world.rows
  pub last : made.world.last_key ≡ key_before world.world end

-- what is told of a run, beside the world of its rows that stay
pub record IsMade (script : TScript) (world : Table) (combined : CellWords) (seed first end : ℕ) (told : Result Counts PostFault) (made : Table) : Type 0 where
  pub table : IfOk told (λ counts. IsRunTable world first end counts made)
  pub put : (items : List Item) → AreWords script.schema.effects combined items → cell_fault (combined_from script items 0 world.world.rows) ≡ None
      → PutsRun (posted_rows script world.world seed items) first end told made.world.rows

-- the same, where there is such a world
abbrev pub HasMade : TScript → Table → CellWords → ℕ → ℕ → ℕ → Result Counts PostFault → Option Table → Type 0
HasMade script world combined seed first end told None = ⊥
HasMade script world combined seed first end told (Some made) = IsMade script world combined seed first end told made

-- a piece whose rows are behind `post`
pub record IsDone (script : TScript) (world : Table) (combined : CellWords) (seed : ℕ) (piece : PostPiece) : Type 0 where
  pub run : IsRun world.world piece.first piece.end
  pub wide : (items : List Item) → AreWords script.schema.effects combined items → TellsWide (combined_from script items 0 world.world.rows) piece.first piece.end piece.wide
  pub made : HasMade script world combined seed piece.first piece.end piece.told piece.made

-- all pieces are behind `post`
pub record AreDone (script : TScript) (world : Table) (combined : CellWords) (seed : ℕ) (pieces : List PostPiece) : Type 0 where
  pub each : All (IsDone script world combined seed) pieces
  pub joined : AreJoined 0 (length world.world.rows) pieces

-- ---- together

-- the rows of a world that is there can be added without taking memory
abbrev pub CanPushMade : Building → Option Table → Type 0
CanPushMade building None = ⊥
CanPushMade building (Some made) = CanPushAll building made

-- all rows of a world that is there are put behind the others
abbrev pub PushesMade : Building → Building → Option Table → Type 0
PushesMade old new None = ⊥
PushesMade old new (Some made) = new ≡ with_rows old made
