-- The faults of rows, kept beside what was found.
use Rattle.std.specs.Prelude.{◌≡◌, ℕ, ◌<◌, ◌≤◌, All, List, None, length}
use Rattle.sgl_values.specs.declared.fault.Fault.{Fault as AFault}
use Rattle.group_sweeps.specs.declared.ask.Ask.{Ask}
use Rattle.group_sweeps.specs.declared.found.Found.{Found}
use Rattle.group_sweeps.specs.Asks.{ask_at}
use Rattle.group_sweeps.specs.Finds.{found_at}
use Rattle.group_sweeps.specs.Found.{IsPut}

-- the faults of the first rows are put down; other rows stay
pub record ArePut (asks : List Ask) (count : ℕ) (faults : List AFault) (old new : List Found) : Type 0 where
  pub size : length new ≡ length old
  pub few : length faults ≤ count
  pub done : (row : ℕ) → row < count → IsPut (ask_at asks row).fault faults (found_at old row) (found_at new row)
  pub rest : (row : ℕ) → count ≤ row → found_at new row ≡ found_at old row

-- no row has a fault
abbrev pub HasNone : List Ask → Type 0
HasNone asks = All (λ ask. ask.fault ≡ None) asks
