-- What lies between four corners.
use Rattle.std.proofs.Common.{◌≡◌, ℕ, ◌+◌, ◌-◌, ◌<◌, ◌≤◌, List, length, subst, ◌∙◌, arith}
use Rattle.std.specs.Prelude.{slice_range}
use Rattle.range_aggregate.specs.Edges.{edge_place}
use Rattle.range_aggregate.specs.Rows.{IsRankGrid, count_rows}
use Rattle.range_aggregate.proofs.Gridded.{cells_ordered, cells_by_corners}
use Rattle.range_aggregate.proofs.rank_index.RankIndex.count_cells.Goals as goal
use Rattle.range_aggregate.proofs.rank_index.RankIndex.count_cells.Goals.{After-corner-4}

module _ (c : After-corner-4) where
  abbrev edge_at : ℕ → ℕ
  edge_at = edge_place (length c.args.self.now)

  -- the grid is that of the ranks
  grid : IsRankGrid c.args.self.now c.self.inside.grid
  grid = subst (λ (ranks : List ℕ). IsRankGrid ranks c.self.inside.grid) c.self.view_is c.self.invariant.grid_is

  low : c.args.rows.from < c.self.inside.grid.width
  low = omega (arith, grid.some, grid.last.within, c.requires.rows, c.requires.ordered)

  high : c.args.rows.to < c.self.inside.grid.width
  high = omega (arith, grid.some, grid.last.within, c.requires.rows)

  last : c.args.columns.to < c.self.inside.grid.width
  last = omega (arith, grid.some, grid.last.within, c.requires.columns)

  first : c.args.columns.from < c.self.inside.grid.width
  first = omega (arith, last, c.requires.forward)

  counted : (count_rows (edge_at c.args.rows.from) (edge_at c.args.rows.to - 1) (slice_range c.args.self.now (edge_at c.args.columns.from) (edge_at c.args.columns.to)) + c.corner-2.result) + c.corner-3.result ≡ c.corner.result + c.corner-4.result
  counted =
      omega (
        arith,
        c.corner.ensures ∙ grid.each c.args.columns.to c.args.rows.to last high,
        c.corner-2.ensures ∙ grid.each c.args.columns.from c.args.rows.to first high,
        c.corner-3.ensures ∙ grid.each c.args.columns.to c.args.rows.from last low,
        c.corner-4.ensures ∙ grid.each c.args.columns.from c.args.rows.from first low,
        cells_by_corners c.args.self.now c.args.columns.from c.args.columns.to c.args.rows.from c.args.rows.to c.requires.forward c.requires.ordered,
      )

  below : c.corner-4.result ≤ c.corner-3.result
  below =
      omega (
        arith,
        c.corner-3.ensures ∙ grid.each c.args.columns.to c.args.rows.from last low,
        c.corner-4.ensures ∙ grid.each c.args.columns.from c.args.rows.from first low,
        cells_ordered c.args.self.now c.args.columns.from c.args.columns.to c.args.rows.from c.requires.forward,
      )

pub overflow_sub-upper : goal.overflow_sub-upper
overflow_sub-upper c =
    let grid = subst (λ (ranks : List ℕ). IsRankGrid ranks c.self.inside.grid) c.self.view_is c.self.invariant.grid_is in
    let high : c.args.rows.to < c.self.inside.grid.width = omega (arith, grid.some, grid.last.within, c.requires.rows) in
    let last : c.args.columns.to < c.self.inside.grid.width = omega (arith, grid.some, grid.last.within, c.requires.columns) in
    let first : c.args.columns.from < c.self.inside.grid.width = omega (arith, last, c.requires.forward) in
    omega (
      arith,
      c.corner.ensures ∙ grid.each c.args.columns.to c.args.rows.to last high,
      c.corner-2.ensures ∙ grid.each c.args.columns.from c.args.rows.to first high,
      cells_ordered c.args.self.now c.args.columns.from c.args.columns.to c.args.rows.to c.requires.forward,
    )

pub overflow_sub-lower : goal.overflow_sub-lower
overflow_sub-lower c = below (goal.at.overflow_sub-lower c).After-corner-4

pub overflow_sub-result : goal.overflow_sub-result
overflow_sub-result c =
    let before = (goal.at.overflow_sub-result c).After-corner-4 in
    omega (arith, counted before, below before)

pub returns : goal.returns
returns c =
    let before = (goal.at.returns c).After-corner-4 in
    omega (arith, counted before, below before)
