-- The corners of a grid.
use Rattle.std.proofs.Common.{◌≡◌, ℕ, ◌+◌, ◌-◌, ◌*◌, ◌<◌, ◌≤◌, List, length, get_or, take, sym, ap, ◌∙◌, inl, inr, arith}
use Rattle.std.specs.Prelude.{slice_range}
use Rattle.std.specs.List.{sum}
use Rattle.std.proofs.Math.Nat.{mul-le-mul_right}
use Rattle.std.proofs.lemmas.Bool.{cases_lt}
use Rattle.range_aggregate.specs.Edges.{edge_place}
use Rattle.range_aggregate.specs.Rows.{GoesOnWithSums, count_rows, corner_count}
use Rattle.range_aggregate.proofs.Counting.{rows_by_corners, under_part}

-- ---- column by column

within_columns : (width columns column row : ℕ) → column < columns → row < width → column * width + row < columns * width
within_columns width columns column row across along =
    let next : column + 1 ≤ columns = omega (arith, across) in
    let all : (column + 1) * width ≤ columns * width = mul-le-mul_right width next in
    omega (arith, all, along)

-- the corners of one column more
pub column_more : (ranks bands before behind : List ℕ) (width columns : ℕ) → length bands ≡ width → length before ≡ columns * width → GoesOnWithSums bands before behind
    → ((row : ℕ) → sum (take row bands) ≡ corner_count ranks columns row)
    → ((column row : ℕ) → column < columns → row < width → get_or before (column * width + row) 0 ≡ corner_count ranks column row)
    → (column row : ℕ) → column < columns + 1 → row < width → get_or behind (column * width + row) 0 ≡ corner_count ranks column row
column_more ranks bands before behind width columns wide long more last each column row across along = elim (cases_lt column columns) [
  | inl lt ↦ more.kept (column * width + row) (omega (arith, long, within_columns width columns column row lt along)) ∙ each column row lt along
  | inr le ↦
      let same : column ≡ columns = omega (arith, across, le) in
      let at : column * width + row ≡ length before + row = ap (λ n. n * width + row) same ∙ omega (arith, long) in
      ap (λ k. get_or behind k 0) at ∙ more.sums row (omega (arith, wide, along)) ∙ last row ∙ ap (λ n. corner_count ranks n row) (sym same)
]

module _ (ranks : List ℕ) where
  abbrev edge : ℕ → ℕ
  edge = edge_place (length ranks)

  -- ---- what lies between corners

  pub cells_ordered : (from to row : ℕ) → from ≤ to → corner_count ranks from row ≤ corner_count ranks to row
  cells_ordered from to row ordered = omega (arith, under_part (edge row) ranks (edge from) (edge to) (omega (arith, ordered)))

  pub cells_by_corners : (from to low high : ℕ) → from ≤ to → edge low < edge high
      → (count_rows (edge low) (edge high - 1) (slice_range ranks (edge from) (edge to)) + corner_count ranks from high) + corner_count ranks to low ≡ corner_count ranks to high + corner_count ranks from low
  cells_by_corners from to low high ordered apart = rows_by_corners (edge low) (edge high) apart ranks (edge from) (edge to) (omega (arith, ordered))
