-- Points by rising pair, so that the rank of a point is its number among them.
use Rattle.std.specs.Prelude.{ℕ, List, Option, map, slice_get}
use Rattle.std.specs.List.Sorted.{IsSortedByKey}
use Rattle.std.specs.Option.{option_map}
use Rattle.extreme_sweep.specs.declared.pair.Pair.{Pair}
use Rattle.extreme_sweep.specs.declared.pair.Entry.{Entry}
use Rattle.extreme_sweep.specs.declared.window.SweepPoint.{SweepPoint}
use Rattle.extreme_sweep.specs.Pairs.{pair_cmp}
use Rattle.extreme_sweep.specs.Slots.{point_at}

abbrev pub PairsRise : List SweepPoint → Type 0
PairsRise = IsSortedByKey (λ point. point.entry.pair) pair_cmp

-- the points with these ranks
abbrev pub points_of : List SweepPoint → List ℕ → List SweepPoint
points_of ranked ranks = map (λ rank. point_at ranked rank) ranks

-- the entry of the point with a rank, and its pair, where there is one
abbrev pub entry_of : List SweepPoint → ℕ → Option Entry
entry_of ranked rank = option_map (λ point. point.entry) (slice_get ranked rank)

abbrev pub pair_of : List SweepPoint → ℕ → Option Pair
pair_of ranked rank = option_map (λ point. point.entry.pair) (slice_get ranked rank)

abbrev pub entries_at : List SweepPoint → List ℕ → List (Option Entry)
entries_at ranked ranks = map (entry_of ranked) ranks
