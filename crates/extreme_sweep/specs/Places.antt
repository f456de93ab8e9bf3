-- Entries at places, some of which are empty.
use Rattle.std.specs.Prelude.{ℕ, ℤ, ◌+◌, List, Option, slice_range}
use Rattle.std.specs.List.{filter_map}
use Rattle.extreme_sweep.specs.declared.pair.Pair.{Pair}
use Rattle.extreme_sweep.specs.declared.pair.Entry.{Entry}
use Rattle.extreme_sweep.specs.Pairs.{least_other_than}

-- the entries that stand at some of the places
abbrev pub entries_of : List (Option Entry) → List Entry
entries_of places = filter_map (λ place. place) places

-- the least pair at the places i to j, both included, whose group is not the given one
abbrev pub least_between : List (Option Entry) → ℕ → ℕ → Option ℤ → Option Pair
least_between places i j other = least_other_than other (entries_of (slice_range places i (j + 1)))
