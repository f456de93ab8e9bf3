-- Rows by their groups, and within each group by rising value.
use Rattle.std.specs.Prelude.{◌≡◌, ℕ, ℤ, pos, ◌==◌, ◌<◌, ◌&&◌, ◌||◌, nat_lt, int_le, int_lt, Bool, List, [], filter, length, map, slice_index_or, Option}
use Rattle.std.specs.List.Sorted.{IsSortedByKey}
use Rattle.std.specs.Ordering.{nat_cmp, int_cmp, ordering_then}
use Rattle.std.specs.declared.cmp.Ordering.{Ordering}
use Rattle.sgl_values.specs.World.{World, row_at}
use Rattle.sgl_values.specs.Range.{is_between}
use Rattle.sgl_typed.specs.declared.script.Attr.{Attr}
use Rattle.row_groups.specs.declared.ranked.Ranked.{Ranked}
use Rattle.row_groups.specs.Keys.{along}

-- a row of a group, with its values
abbrev pub ranked_row : Option Attr → Option Attr → World → ℕ → ℕ → Ranked
ranked_row axis across world group row = record { group = group; value = along axis (row_at world row); across = along across (row_at world row); row = row }

-- the row with this number among rows
abbrev pub ranked_in : List Ranked → ℕ → Ranked
ranked_in all number = slice_index_or all number record { group = 0; value = pos 0; across = pos 0; row = 0 }

-- the second value is that of a row of the world
abbrev pub IsAcross : Option Attr → World → Ranked → Type 0
IsAcross across world ranked = (ranked.row < length world.rows) × (ranked.across ≡ along across (row_at world ranked.row))

-- the row is before those of a group that have at least this value
abbrev pub is_before : ℕ → ℤ → Ranked → Bool
is_before group low ranked = nat_lt ranked.group group || ((ranked.group == group) && int_lt ranked.value low)

-- the row is before those of a group that have a value above this one
abbrev pub is_through : ℕ → ℤ → Ranked → Bool
is_through group high ranked = nat_lt ranked.group group || ((ranked.group == group) && int_le ranked.value high)

-- the row is in the group, and has a value from the low number to the high one
abbrev pub is_in_group : ℕ → ℤ → ℤ → Ranked → Bool
is_in_group group low high ranked = (ranked.group == group) && is_between low high ranked.value

-- of these rows, those with a second value from the low number to the high one
abbrev pub cut_across : ℤ → ℤ → List Ranked → List Ranked
cut_across low high all = filter (λ ranked. is_between low high ranked.across) all

-- the rows of a group with a value from x1 to x2 and a second one from y1 to y2
abbrev pub rows_between : List Ranked → ℕ → ℤ → ℤ → ℤ → ℤ → List ℕ
rows_between all group x1 x2 y1 y2 = map (λ ranked. ranked.row) (cut_across y1 y2 (filter (is_in_group group x1 x2) all))

-- by group, and then by value
abbrev pub rank_of : Ranked → ℕ × ℤ
rank_of ranked = (ranked.group, ranked.value)

abbrev pub rank_cmp : ℕ × ℤ → ℕ × ℤ → Ordering
rank_cmp x y = ordering_then (nat_cmp x.0 y.0) (int_cmp x.1 y.1)

abbrev pub AreInOrder : List Ranked → Type 0
AreInOrder = IsSortedByKey rank_of rank_cmp

-- these rows that have a value from the low number to the high one
abbrev pub rows_valued : Option Attr → World → ℤ → ℤ → List ℕ → List ℕ
rows_valued axis world low high rows = filter (λ row. is_between low high (along axis (row_at world row))) rows

-- the rows of these groups, with their values
abbrev pub HoldGroups : List Ranked → List (List ℕ) → Option Attr → Option Attr → World → Type 0
HoldGroups all lists axis across world = (group : ℕ) (x1 x2 y1 y2 : ℤ)
    → rows_between all group x1 x2 y1 y2 ≡ rows_valued across world y1 y2 (rows_valued axis world x1 x2 (slice_index_or lists group []))
