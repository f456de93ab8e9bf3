-- One number for the group and the value of a row, and what such numbers tell.
use Rattle.std.specs.Prelude.{◌≡◌, ℕ, ℤ, pos, negsuc, ◌*◌, ◌<◌, ◌≤◌, ◌+ℤ◌, ◌-ℤ◌, ◌≤ℤ◌, Bool, true, false, All, List, length, map}
use Rattle.std.specs.List.Sorted.{IsPartitionPoint}
use Rattle.row_groups.specs.declared.ends.Ends.{Ends}
use Rattle.row_groups.specs.declared.ends.Scale.{Scale}
use Rattle.row_groups.specs.declared.ranked.Ranked.{Ranked}
use Rattle.sgl_values.specs.declared.limit.TheConstants.{ROWS_MAX}

-- the bounds of values, and the width of a group: one place more at each end
pub record IsScale (scale : Scale) : Type 0 where
  pub low : negsuc 999999999999 ≤ℤ scale.least
  pub order : scale.least ≤ℤ scale.greatest
  pub high : scale.greatest ≤ℤ pos 1000000000000
  pub width : pos scale.width ≡ (scale.greatest -ℤ scale.least) +ℤ pos 2

-- the value of the row is from the least to the greatest
abbrev pub IsBetween : Scale → Ranked → Type 0
IsBetween scale ranked = (scale.least ≤ℤ ranked.value) × (ranked.value ≤ℤ scale.greatest)

-- the number of a group and a value
abbrev pub place_of : Scale → ℕ → ℤ → ℤ
place_of scale group value = pos (group * scale.width) +ℤ (value -ℤ scale.least)

-- and of a row
abbrev pub place_in : Scale → Ranked → ℤ
place_in scale ranked = place_of scale ranked.group ranked.value

-- these are the numbers of these rows
pub record AreEnds (ends : Ends) (all : List Ranked) : Type 0 where
  pub scale : IsScale ends.scale
  pub groups : All (λ ranked. ranked.group < ROWS_MAX) all
  pub within : All (IsBetween ends.scale) all
  pub places : ends.places ≡ map (place_in ends.scale) all

-- so many rows stand first that pass, and no other does
abbrev pub IsEnd : (Ranked → Bool) → List Ranked → ℕ → Type 0
IsEnd p all end = (end ≤ length all) × IsPartitionPoint (λ ranked. p ranked ≡ true) (λ ranked. p ranked ≡ false) all end
