-- The worlds of a run in which nothing but the tick changes.
use Rattle.std.specs.Prelude.{ℕ, pos, ◌<◌, List, [], ◌∷◌}
use Rattle.sgl_values.specs.World.{World}
use Rattle.world_publish.specs.Showing.{IsEntry}

-- the world of a tick with one unit
abbrev pub still_at : ℕ → World
still_at tick = record { tick = tick; last_key = 9; rows = record { key = 5; values = pos 7 ∷ [] } ∷ [] }

-- so many of the first are those
abbrev pub AreStill : ℕ → List World → Type 0
AreStill count all = (position : ℕ) → position < count → IsEntry all position (still_at position)
