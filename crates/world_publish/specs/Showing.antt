-- What a stand shows: the entries of one list of worlds, one after another.
use Rattle.std.specs.Prelude.{◌≡◌, ℕ, ◌+◌, List, length, slice_get, Some}
use Rattle.std.specs.Arc.{arc_value}
use Rattle.sgl_values.specs.World.{World}
use Rattle.world_publish.specs.Machine.{Stand, IsStand}
use Rattle.world_publish.specs.declared.showing.Showing.{Showing}

-- the world stands at this position of the list
abbrev pub IsEntry : List World → ℕ → World → Type 0
IsEntry all position world = slice_get all position ≡ Some world

-- what is shown is the entry of its position
abbrev pub IsShown : List World → Showing → Type 0
IsShown all showing = IsEntry all showing.position (arc_value showing.world).world

-- the stand at which this is shown, where the seats have seen these positions
abbrev pub stand_of : List World → Showing → List ℕ → Stand
stand_of all showing seen = record { entries = length all; published = showing.position + 1; seen = seen }

-- the rule of a stand: of what is shown, and of what each seat has seen
abbrev pub Holds : List World → Showing → List ℕ → Type 0
Holds all showing seen = IsShown all showing × IsStand (stand_of all showing seen)

-- a look: the seat sees the position that is shown
abbrev pub Looks : List World → ℕ → Showing → Showing → ℕ → Type 0
Looks all old shown next new = IsShown all next × (new ≡ next.position)

-- a publication: the next position is shown, and the seat sees nothing
abbrev pub Publishes : List World → ℕ → Showing → Showing → ℕ → Type 0
Publishes all old shown next new = IsShown all next × (next.position ≡ shown.position + 1) × (new ≡ old)

-- what waits to be shown is the entry of this position
abbrev pub Waits : List World → ℕ → Showing → Type 0
Waits all position showing = (showing.position ≡ position) × IsShown all showing
