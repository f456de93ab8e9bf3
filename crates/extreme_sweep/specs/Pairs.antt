-- Pairs, their order, and the least pair of entries.
use Rattle.std.specs.Prelude.{ℤ, Bool, true, not, List, Option, Some, None, map, filter, if◌then◌else◌}
use Rattle.std.specs.Ordering.{nat_cmp, int_cmp, int_eq, on, then_cmp}
use Rattle.std.specs.declared.cmp.Ordering.{Ordering}
use Rattle.sgl_values.specs.Least.{least_of}
use Rattle.extreme_sweep.specs.declared.pair.Pair.{Pair}
use Rattle.extreme_sweep.specs.declared.pair.Entry.{Entry}

-- by value, and then by key
abbrev pub pair_cmp : Pair → Pair → Ordering
pair_cmp = then_cmp (on (λ pair. pair.value) int_cmp) (on (λ pair. pair.key) nat_cmp)

-- whether an entry is of another group than the given one; each is where none is given
abbrev pub is_other_than : Option ℤ → Entry → Bool
is_other_than None entry = true
is_other_than (Some group) entry = not (int_eq entry.group group)

-- the least pair of the entries whose group is not the given one
abbrev pub least_other_than : Option ℤ → List Entry → Option Pair
least_other_than other entries = least_of pair_cmp (map (λ entry. entry.pair) (filter (is_other_than other) entries))

-- the pair of an entry, where its group is not the given one
abbrev pub pair_other_than : Option ℤ → Entry → Option Pair
pair_other_than other entry = if is_other_than other entry then Some entry.pair else None
