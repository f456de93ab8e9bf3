-- Laws of ranks. All but the last are of numbers in any order.
use Rattle.std.specs.Prelude.{◌≡◌, ℤ, ◌≤◌, ◌<◌, ◌≤ℤ◌, ◌↔◌, int_lt, int_le, true, false, List, length}
use Rattle.std.specs.List.{Contains}
use Rattle.std.specs.List.Sorted.{IsPartitionPoint}
use Rattle.rank_table.specs.Ranks.{IsRising, count_below, count_through}

-- ranks are no more than there are numbers
abbrev pub RanksAreBounded : Type 0
RanksAreBounded = (number : ℤ) (zs : List ℤ) → (count_below number zs ≤ length zs) × (count_through number zs ≤ length zs)

-- ranks rise with the number
abbrev pub RanksRise : Type 0
RanksRise = (low high : ℤ) (zs : List ℤ) → low ≤ℤ high → (count_below low zs ≤ count_below high zs) × (count_through low zs ≤ count_through high zs)

-- one of the numbers is at a bound or above it, where its rank is
abbrev pub RanksTellFrom : Type 0
RanksTellFrom = (low number : ℤ) (zs : List ℤ) → Contains zs number → (low ≤ℤ number) ↔ (count_below low zs ≤ count_below number zs)

-- and at a bound or below it, where its rank is less than that behind the bound
abbrev pub RanksTellTo : Type 0
RanksTellTo = (high number : ℤ) (zs : List ℤ) → Contains zs number → (number ≤ℤ high) ↔ (count_below number zs < count_through high zs)

-- where the numbers rise, those before the place of a rank are less than the number, or that and no greater, and the others are not
abbrev pub RanksPart : Type 0
RanksPart = (number : ℤ) (zs : List ℤ) → IsRising zs
    → IsPartitionPoint (λ z. int_lt z number ≡ true) (λ z. int_lt z number ≡ false) zs (count_below number zs)
    × IsPartitionPoint (λ z. int_le z number ≡ true) (λ z. int_le z number ≡ false) zs (count_through number zs)
