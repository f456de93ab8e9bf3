-- Points along each axis, by their ranks, and the places at which ranks stand.
use Rattle.std.specs.Prelude.{◌≡◌, ℕ, ℤ, pos, ◌<◌, List, length, map, slice_index_or}
use Rattle.std.specs.List.Sorted.{IsPermutation}
use Rattle.rank_table.specs.Ranks.{IsRising}
use Rattle.extreme_sweep.specs.declared.along.Columns.{Columns}
use Rattle.extreme_sweep.specs.declared.along.Heights.{Heights}
use Rattle.extreme_sweep.specs.declared.axis.Axis.{Axis}
use Rattle.extreme_sweep.specs.declared.axis.Axis.TheVariants.{X, Y}
use Rattle.extreme_sweep.specs.declared.placing.Entrant.{Entrant}
use Rattle.extreme_sweep.specs.declared.window.SweepPoint.{SweepPoint}
use Rattle.extreme_sweep.specs.Slots.{slots_from, Slot}

-- by its rank the place of each rank can be told, so that none stands twice
abbrev pub AreNumbered : (ℕ → ℕ) → List ℕ → Type 0
AreNumbered number ranks = (p d : ℕ) → p < length ranks → number (slice_index_or ranks p d) ≡ p

-- at each rank stands its place
abbrev pub IsInverse : List ℕ → List ℕ → Type 0
IsInverse places ranks = (p d e : ℕ) → p < length ranks → slice_index_or places (slice_index_or ranks p d) e ≡ p

-- the ranks are those of the points by rising coordinate along an axis, and the numbers are these coordinates
pub record AreAlong (axis : Axis) (ranked : List SweepPoint) (ranks : List ℕ) (numbers : List ℤ) : Type 0 where
  pub slots : List Slot
  pub moved : IsPermutation (slots_from axis 0 ranked) slots
  pub ranks_are : ranks ≡ map (λ slot. slot.place) slots
  pub numbers_are : numbers ≡ map (λ slot. slot.coordinate) slots
  pub rising : IsRising numbers

-- the points by rising y, with the place of each rank
pub record AreHeights (ranked : List SweepPoint) (heights : Heights) : Type 0 where
  pub along : AreAlong Y ranked heights.ranks.items heights.ys
  pub all : length heights.places.items ≡ length heights.ranks.items
  pub inverse : (number : ℕ → ℕ) → AreNumbered number heights.ranks.items → IsInverse heights.places.items heights.ranks.items

-- the points by rising x, and their groups
pub record AreColumns (ranked : List SweepPoint) (columns : Columns) : Type 0 where
  pub along : AreAlong X ranked columns.ranks.items columns.xs
  pub groups_are : columns.groups.items ≡ map (λ point. point.entry.group) ranked

-- the slot with the place of its rank
abbrev pub placed_by : List ℕ → Slot → Slot
placed_by places slot = record { coordinate = slot.coordinate; place = slice_index_or places slot.place 0 }

-- the point with a rank as it enters: at its place, and with its group
abbrev pub entrant_of : List ℕ → List ℤ → ℕ → Entrant
entrant_of places groups rank = record { place = slice_index_or places rank 0; rank = rank; group = slice_index_or groups rank (pos 0) }

-- the same of a slot, where the rank at each place is known
abbrev pub entrant_at : List ℕ → List ℤ → Slot → Entrant
entrant_at ranks groups slot =
    record { place = slot.place; rank = slice_index_or ranks slot.place 0; group = slice_index_or groups (slice_index_or ranks slot.place 0) (pos 0) }
