-- Ranks: how many of the numbers along an axis are below a number.
use Rattle.std.specs.Prelude.{ℕ, ℤ, ◌≤◌, int_le, int_lt, count_by, List, length}
use Rattle.std.specs.List.Sorted.{IsPermutation, IsSortedByKey}
use Rattle.std.specs.Ordering.{int_cmp}
use Rattle.sgl_values.specs.declared.limit.TheConstants.{ROWS_MAX}

-- how many numbers are below this one
abbrev pub count_below : List ℤ → ℤ → ℕ
count_below numbers number = count_by (λ other. int_lt other number) numbers

-- how many are not above it
abbrev pub count_through : List ℤ → ℤ → ℕ
count_through numbers number = count_by (λ other. int_le other number) numbers

-- no number is below the one before it
abbrev pub IsRising : List ℤ → Type 0
IsRising numbers = IsSortedByKey (λ number. number) int_cmp numbers

-- numbers among which ranks are found
pub record IsRanked (numbers : List ℤ) : Type 0 where
  pub rising : IsRising numbers
  pub few : length numbers ≤ ROWS_MAX

-- the numbers in rising order
pub record IsAxis (numbers sorted : List ℤ) : Type 0 where
  pub same : IsPermutation numbers sorted
  pub rising : IsRising sorted
