-- A spectator while it looks.
use Rattle.std.specs.Prelude.{◌≡◌, ℕ, ◌+◌, ◌-◌, ◌<◌, ◌≤◌, List, [], ◌∷◌, ◌++◌, All, length}
use Rattle.sgl_values.specs.World.{World}
use Rattle.battle_report.specs.declared.watch_line.Look.{Look}
use Rattle.battle_watch.specs.Watches.{AreNumbered, IsLook, IsWatch, RiseFromTo}
use Rattle.sgl_values.specs.declared.limit.TheConstants.{SPECTATORS_MAX}

-- its number, the position that it has seen or learnt of, its notes, and the room for more
pub record Watching : Type 0 where
  pub number : ℕ
  pub seen : ℕ
  pub room : ℕ
  pub notes : List Look

-- What every spectator of these worlds meets.
pub record IsWatching (all : List World) (watch : Watching) : Type 0 where
  pub numbered : AreNumbered all
  pub few : watch.number < SPECTATORS_MAX
  pub looks : All (IsLook all) watch.notes
  pub rise : RiseFromTo 0 watch.notes watch.seen

-- it has looked so often, and has room for so many looks more
abbrev pub HasLooked : ℕ → ℕ → Watching → Type 0
HasLooked looks room watch = (length watch.notes ≡ looks) × (watch.room ≡ room)

-- its notes are those of a spectator that has looked at the last world
abbrev pub HasEnded : List World → ℕ → Watching → Type 0
HasEnded all looks watch = IsWatch all looks watch.notes

-- One note more, of a world that is not before what was seen.
pub record Notes (all : List World) (old new : Watching) : Type 0 where
  pub note : Look
  pub is_look : IsLook all note
  pub later : old.seen ≤ note.tick
  pub seen : new.seen ≡ note.tick
  pub notes : new.notes ≡ old.notes ++ note ∷ []
  pub room : new.room ≡ old.room - 1
  pub same : new.number ≡ old.number

-- It has seen or learnt of the last world, and has noted nothing more.
pub record HasLearnt (all : List World) (old new : Watching) : Type 0 where
  pub held : IsWatching all old
  pub last : length all ≤ new.seen + 1
  pub later : old.seen ≤ new.seen
  pub notes : new.notes ≡ old.notes
  pub room : new.room ≡ old.room
  pub same : new.number ≡ old.number
