-- What spectators may have noted of the worlds of a run, and their lines.
use Rattle.std.specs.Prelude.{◌≡◌, ℕ, suc, ◌+◌, ◌-◌, ◌≤◌, List, [], ◌∷◌, ◌++◌, All, length, map, slice_get, Option, Some, Result}
use Rattle.sgl_outside.specs.Sinks.{Writes}
use Rattle.sgl_values.specs.World.{World}
use Rattle.battle_report.specs.RunLines.{watch_line}
use Rattle.battle_report.specs.declared.watch_line.Look.{Look}

-- what is noted of a world
abbrev pub look_of : World → Look
look_of world = record { tick = world.tick; units = length world.rows }

-- the worlds are numbered by their ticks, from 0
abbrev pub AreNumbered : List World → Type 0
AreNumbered all = (position : ℕ) (world : World) → slice_get all position ≡ Some world → world.tick ≡ position

-- it is the note of the world of its tick
abbrev pub IsLook : List World → Look → Type 0
IsLook all look = slice_get (map look_of all) look.tick ≡ Some look

-- the ticks begin at this number, never fall, and do not pass that one
abbrev pub RiseFromTo : ℕ → List Look → ℕ → Type 0
RiseFromTo low [] high = low ≤ high
RiseFromTo low (look ∷ looks) high = (low ≤ look.tick) × RiseFromTo look.tick looks high

-- What a spectator may have noted of these worlds with so many looks beside the ticks: each note is that of one of the
-- worlds, their ticks never fall, and the last is that of the last world.
pub record IsWatch (all : List World) (looks : ℕ) (notes : List Look) : Type 0 where
  pub full : length notes ≡ looks + 1
  pub seen : All (IsLook all) notes
  pub rise : RiseFromTo 0 notes (length all - 1)
  pub last : slice_get notes looks ≡ slice_get (map look_of all) (length all - 1)

-- What so many spectators may have noted.
pub record AreWatches (all : List World) (spectators looks : ℕ) (watches : List (List Look)) : Type 0 where
  pub full : length watches ≡ spectators
  pub each : All (IsWatch all looks) watches

-- the lines of spectators, of which the first has this number
abbrev pub watch_text : ℕ → List (List Look) → List ℕ
watch_text number [] = []
watch_text number (notes ∷ watches) = watch_line number notes ++ watch_text (suc number) watches

-- without spectators there is no line
abbrev pub NoneWatchedIsNoText : Type 0
NoneWatchedIsNoText = (all : List World) (looks : ℕ) (watches : List (List Look)) → AreWatches all 0 looks watches → watch_text 0 watches ≡ []

-- The lines of what so many spectators may have noted were written, or the sink failed behind a prefix of them.
abbrev pub WritesWatches : {T E : Type 0} → List World → ℕ → ℕ → Option (List ℕ) → Option (List ℕ) → ℕ → ℕ → Result T E → Type 0
WritesWatches all spectators looks old new before now result =
    (watches : List (List Look)) × AreWatches all spectators looks watches × Writes old new before now result (watch_text 0 watches)
