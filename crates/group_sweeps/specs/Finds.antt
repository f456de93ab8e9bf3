-- What the rows of groups find.
use Rattle.std.specs.Prelude.{◌≡◌, ℕ, ◌<◌, ◌==◌, List, [], Contains, length, map, slice_index_or}
use Rattle.sgl_values.specs.World.{World, row_at}
use Rattle.extreme_sweep.specs.declared.window.SweepPoint.{SweepPoint}
use Rattle.extreme_sweep.specs.Windows.{least_inside}
use Rattle.row_groups.specs.Places.{places}
use Rattle.group_sweeps.specs.declared.ask.Ask.{Ask}
use Rattle.group_sweeps.specs.declared.found.Found.{Found}
use Rattle.group_sweeps.specs.declared.found.Found.TheVariants.{Nothing}
use Rattle.group_sweeps.specs.declared.group_sweep.GroupFound.{GroupFound}
use Rattle.group_sweeps.specs.declared.sides.Sides.{Sides}
use Rattle.group_sweeps.specs.Asks.{group_at, window_at}
use Rattle.group_sweeps.specs.Extremes.{sweep_point}
use Rattle.group_sweeps.specs.Found.{IsFoundOf}

-- the row with this number as a point
abbrev pub point_by : Sides → World → ℕ → SweepPoint
point_by sides world row = sweep_point sides (row_at world row)

abbrev pub found_at : List Found → ℕ → Found
found_at found row = slice_index_or found row Nothing

-- for so many of these rows, one by one, what was found is the least pair in the window that the row asks for
pub record AreFoundFor (world : World) (points : List SweepPoint) (asks : List Ask) (rows : List ℕ) (count : ℕ) (own : List Found) : Type 0 where
  pub all : length own ≡ count
  pub each : (k : ℕ) → k < count → IsFoundOf world (least_inside points (window_at asks (slice_index_or rows k 0))) (found_at own k)

-- the rows are those that ask for a group, and what was found for each is the least pair in its window of the points of the group
pub record IsGroupFound (world : World) (point : ℕ → SweepPoint) (members : List (List ℕ)) (asks : List Ask) (group : ℕ) (one : GroupFound) : Type 0 where
  pub askers : one.rows.items ≡ places (λ ask. ask.group == group) asks 0
  pub found : AreFoundFor world (map point (slice_index_or members group [])) asks one.rows.items (length one.rows.items) one.found.items

-- for the first of these rows, what stands in their places is the least pair in the window that the row asks for
abbrev pub FindsEach : World → List SweepPoint → List Ask → List ℕ → ℕ → List Found → Type 0
FindsEach world points asks rows count found = (k : ℕ) → k < count
    → IsFoundOf world (least_inside points (window_at asks (slice_index_or rows k 0))) (found_at found (slice_index_or rows k 0))

-- what was found for these rows, one by one, is put in the places of the first of them
abbrev pub PutsEach : List ℕ → List Found → ℕ → List Found → Type 0
PutsEach rows own count found = (world : World) (points : List SweepPoint) (asks : List Ask)
    → AreFoundFor world points asks rows (length rows) own → FindsEach world points asks rows count found

-- for other rows it stays
abbrev pub KeepsOthers : List ℕ → List Found → List Found → Type 0
KeepsOthers rows old new = (row : ℕ) → ¬ Contains rows row → found_at new row ≡ found_at old row

-- each row that asks for one of the first groups has found what its window holds of it
abbrev pub FindsAll : World → (ℕ → SweepPoint) → List (List ℕ) → List Ask → ℕ → List Found → Type 0
FindsAll world point members asks groups found = (row : ℕ) → row < length asks → group_at asks row < groups
    → IsFoundOf world (least_inside (map point (slice_index_or members (group_at asks row) [])) (window_at asks row)) (found_at found row)
