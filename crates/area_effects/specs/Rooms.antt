-- The room that a sweep and its tables have.
use Rattle.std.specs.Prelude.{ℕ, ◌+◌, ◌*◌, ◌≤◌, vec_capacity}
use Rattle.area_effects.specs.declared.sweep.Sweep.{Sweep}
use Rattle.area_effects.specs.declared.tables.Tables.{Tables}
use Rattle.sgl_values.specs.declared.limit.TheConstants.{ROWS_MAX}

-- the sweep has room for so many points and boxes
pub record HasRoom (points boxes : ℕ) (sweep : Sweep) : Type 0 where
  pub edges : 2 * boxes ≤ vec_capacity sweep.edges
  pub amounts : points + 1 ≤ vec_capacity sweep.amounts.nodes
  pub counts : points + 1 ≤ vec_capacity sweep.counts.nodes

-- what all tables meet
pub record AreTables (tables : Tables) : Type 0 where
  pub few_points : tables.points ≤ ROWS_MAX
  pub few_boxes : tables.boxes ≤ ROWS_MAX
  pub sweep : HasRoom tables.points tables.boxes tables.sweep
  pub sums : tables.points ≤ vec_capacity tables.sums
  pub counts : tables.points ≤ vec_capacity tables.counts
