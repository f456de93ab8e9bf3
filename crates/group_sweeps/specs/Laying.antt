-- Points of groups that are laid out for sweeps.
use Rattle.std.specs.Prelude.{ℕ, ◌<◌, List, [], length, map, slice_index_or, IsPermutation}
use Rattle.extreme_sweep.specs.declared.window.SweepPoint.{SweepPoint}

-- the points of a group, in an order of their own
abbrev pub IsGroupLaid : (ℕ → SweepPoint) → List (List ℕ) → ℕ → List SweepPoint → Type 0
IsGroupLaid point members group laid = IsPermutation (map point (slice_index_or members group [])) laid

-- those of each of the first groups
abbrev pub AreGroupsLaid : (ℕ → SweepPoint) → List (List ℕ) → List (List SweepPoint) → Type 0
AreGroupsLaid point members all = (group : ℕ) (d : List SweepPoint) → group < length all → IsGroupLaid point members group (slice_index_or all group d)
