-- Ranks: how many numbers of a list stand before a number.
use Rattle.std.specs.Prelude.{ℕ, ℤ, ◌≤◌, ◌<◌, ◌≤ℤ◌, int_lt, int_le, List, length, filter, slice_index_or}

-- no number is below one before it
abbrev pub IsRising : List ℤ → Type 0
IsRising zs = (i j : ℕ) (d : ℤ) → i ≤ j → j < length zs → slice_index_or zs i d ≤ℤ slice_index_or zs j d

-- the number of those that are less than this one
abbrev pub count_below : ℤ → List ℤ → ℕ
count_below number zs = length (filter (λ z. int_lt z number) zs)

-- the number of those that are this one or less
abbrev pub count_through : ℤ → List ℤ → ℕ
count_through number zs = length (filter (λ z. int_le z number) zs)
