-- Ranks and their places: as many ranks of some columns are among some rows as places of these rows are among these columns.
use Rattle.std.proofs.Common.{◌≡◌, ℕ, ◌+◌, ◌-◌, ◌<◌, ◌≤◌, List, length, get_or, take, suc, zero, sym, ap, ◌∙◌, inl, inr, arith}
use Rattle.std.specs.Prelude.{slice_range}
use Rattle.std.proofs.lemmas.Bool.{cases_eq}
use Rattle.std.proofs.lemmas.Bool.Decides.{nat_tests}
use Rattle.range_aggregate.specs.Rows.{AreInverse, count_rows, count_under}
use Rattle.range_aggregate.proofs.Counting.{rows_by_corners, under, under_more, under_none}

same_step : (place column rank row : ℕ) → place ≡ column → rank ≡ row → under row rank + under (column + 1) place ≡ under column place + under (row + 1) rank
same_step place column rank row at here = grind (arith, nat_tests)

other_step : (place column rank row : ℕ) → (place ≡ column → ⊥) → (rank ≡ row → ⊥) → under row rank + under (column + 1) place ≡ under column place + under (row + 1) rank
other_step place column rank row at here = grind (arith, nat_tests)

no_row : (rank : ℕ) → under 0 rank ≡ 0
no_row rank = grind (arith, nat_tests)

module _ (ranks places : List ℕ) (inverse : AreInverse ranks places) where
  abbrev rank_at : ℕ → ℕ
  rank_at place = get_or ranks place 0

  abbrev place_at : ℕ → ℕ
  place_at rank = get_or places rank 0

  one_step : (column row : ℕ) → column < length ranks → row < length ranks → under row (rank_at column) + under (column + 1) (place_at row) ≡ under column (place_at row) + under (row + 1) (rank_at column)
  one_step column row inside below = elim (cases_eq (place_at row) column) [
    | inl same ↦ same_step (place_at row) column (rank_at column) row same (ap rank_at (sym same) ∙ inverse.rank_is row below)
    | inr other ↦ other_step (place_at row) column (rank_at column) row other (λ here. other (ap place_at (sym here) ∙ inverse.place_is column inside))
  ]

  -- one column more
  column_more : (column : ℕ) → column < length ranks → (row : ℕ) → row ≤ length ranks
      → count_under (column + 1) (take row places) ≡ count_under column (take row places) + under row (rank_at column)
  column_more column inside zero bound = omega (arith, no_row (rank_at column))
  column_more column inside (suc row) bound =
      let next : row + 1 ≡ suc row = omega arith in
      let below : row < length places = omega (arith, bound, inverse.long) in
      let before = column_more column inside row (omega (arith, bound)) in
      let left = ap (λ n. count_under (column + 1) (take n places)) (sym next) ∙ under_more (column + 1) places row below in
      let right = ap (λ n. count_under column (take n places)) (sym next) ∙ under_more column places row below in
      let last = ap (λ n. under n (rank_at column)) (sym next) in
      omega (arith, before, left, right, last, one_step column row inside (omega (arith, bound)))

  pub corner_transposed : (column row : ℕ) → column ≤ length ranks → row ≤ length ranks → count_under row (take column ranks) ≡ count_under column (take row places)
  corner_transposed zero row inside bound = sym (under_none (take row places))
  corner_transposed (suc column) row inside bound =
      let next : column + 1 ≡ suc column = omega arith in
      let before = corner_transposed column row (omega (arith, inside)) bound in
      let left = ap (λ n. count_under row (take n ranks)) (sym next) ∙ under_more row ranks column (omega (arith, inside)) in
      let right = ap (λ n. count_under n (take row places)) (sym next) ∙ column_more column (omega (arith, inside)) row bound in
      left ∙ ap (λ n. n + under row (rank_at column)) before ∙ sym right

  pub rows_transposed : (a b first end : ℕ) → a < b → b ≤ length ranks → first < end → end ≤ length ranks
      → count_rows a (b - 1) (slice_range places first end) ≡ count_rows first (end - 1) (slice_range ranks a b)
  rows_transposed a b first end wide within high below =
      let by_places = rows_by_corners a b wide places first end (omega (arith, high)) in
      let by_ranks = rows_by_corners first end high ranks a b (omega (arith, wide)) in
      let low_a = corner_transposed a first (omega (arith, wide, within)) (omega (arith, high, below)) in
      let low_b = corner_transposed b first within (omega (arith, high, below)) in
      let high_a = corner_transposed a end (omega (arith, wide, within)) below in
      let high_b = corner_transposed b end within below in
      omega (arith, by_places, by_ranks, low_a, low_b, high_a, high_b)

  -- ---- what is told of the one, told of the other

  module _ (a b first end counted : ℕ) (wide : a < b) (within : b ≤ length ranks) (high : first < end) (below : end ≤ length ranks) (read : List ℕ) (from to : ℕ) where
    pub told_by_ranks : read ≡ places → from ≡ a → to ≡ b - 1 → counted ≡ count_rows first (end - 1) (slice_range ranks a b) → counted ≡ count_rows from to (slice_range read first end)
    told_by_ranks read_is from_is to_is told =
        told ∙ sym (rows_transposed a b first end wide within high below)
        ∙ (λ i. count_rows (sym from_is i) (sym to_is i) (slice_range (sym read_is i) first end))

    pub told_by_places : read ≡ ranks → from ≡ first → to ≡ end - 1 → counted ≡ count_rows a (b - 1) (slice_range places first end) → counted ≡ count_rows from to (slice_range read a b)
    told_by_places read_is from_is to_is told =
        told ∙ rows_transposed a b first end wide within high below
        ∙ (λ i. count_rows (sym from_is i) (sym to_is i) (slice_range (sym read_is i) a b))
