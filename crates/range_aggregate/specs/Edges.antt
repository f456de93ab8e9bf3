-- Edges of places, all equally far apart.
use Rattle.std.specs.Prelude.{ℕ, ◌+◌, ◌*◌, ◌<◌, ◌≤◌, min}
use Rattle.rank_table.specs.declared.span.Span.{Span}
use Rattle.range_aggregate.specs.declared.edge.TheConstants.{BREADTH, NEAR}

-- where an edge lies, of so many places: at their end at most
abbrev pub edge_place : ℕ → ℕ → ℕ
edge_place count edge = min (edge * BREADTH) count

-- the edge is the nearest to the place, and the later one where two are as near
pub record IsNearest (place edge : ℕ) : Type 0 where
  pub outside : edge * BREADTH ≤ place + NEAR
  pub within : place < edge * BREADTH + NEAR

-- each end is near its edge
pub record AreNear (edges ends : Span) : Type 0 where
  pub from_within : edges.from ≤ ends.from + NEAR
  pub from_outside : ends.from ≤ edges.from + NEAR
  pub to_within : ends.to ≤ edges.to + NEAR
  pub to_outside : edges.to ≤ ends.to + NEAR
