-- What the tables of a spread keep, and how they change.
use Rattle.std.specs.Prelude.{◌≡◌, ℕ, ℤ, pos, ◌+◌, ◌<◌, ◌≤◌, List, length, take, All, slice_index_or, slice_set, vec_capacity}
use Rattle.std.specs.List.Sorted.{IsPermutation}
use Rattle.area_effects.specs.declared.area_box.AreaBox.{AreaBox}
use Rattle.area_effects.specs.declared.layout.Layout.{Layout}
use Rattle.area_effects.specs.declared.spot.Spot.{Spot}
use Rattle.area_effects.specs.declared.sweep.Sweep.{Sweep}
use Rattle.area_effects.specs.declared.tables.Tables.{Tables}
use Rattle.area_effects.specs.Edges.{edges_of, covered}
use Rattle.area_effects.specs.Layouts.{point_at}
use Rattle.area_effects.specs.Rooms.{AreTables}
use Rattle.area_effects.specs.Spread.{sum_at, count_at}
use Rattle.area_effects.specs.Sweeping.{IsSweep}
use Rattle.area_effects.specs.Work.{Work}
use Rattle.sgl_values.specs.declared.limit.TheConstants.{ROWS_MAX}

-- what contracts see of the tables
abbrev pub work_of : Tables → Work
work_of tables = record { points = tables.points; boxes = tables.boxes; sums = tables.sums.items; counts = tables.counts.items }

-- the counts of the passed edges come to a number of boxes
pub record IsCounted (sweep : Sweep) (end : ℕ) : Type 0 where
  pub number : ℕ
  pub few : number ≤ ROWS_MAX
  pub is : covered (λ edge. edge.count) (take sweep.next sweep.edges.items) end ≡ pos number

-- there is a place for each of so many points
pub record Clears (points : ℕ) (old new : Tables) : Type 0 where
  pub room : new.points ≡ old.points
  pub room_boxes : new.boxes ≡ old.boxes
  pub sweep : new.sweep ≡ old.sweep
  pub sums : length new.sums.items ≡ points
  pub counts : length new.counts.items ≡ points
  pub sums_room : vec_capacity old.sums ≤ vec_capacity new.sums
  pub counts_room : vec_capacity old.counts ≤ vec_capacity new.counts

-- what the passed edges add up to at a spot is put for its point
pub record Puts (spot : Spot) (old new : Tables) : Type 0 where
  pub room : new.points ≡ old.points
  pub room_boxes : new.boxes ≡ old.boxes
  pub sweep : new.sweep ≡ old.sweep
  pub sums : new.sums.items ≡ slice_set old.sums.items spot.point (covered (λ edge. edge.amount) (take old.sweep.next old.sweep.edges.items) (spot.rank + 1))
  pub counts : (number : ℕ) → covered (λ edge. edge.count) (take old.sweep.next old.sweep.edges.items) (spot.rank + 1) ≡ pos number → new.counts.items ≡ slice_set old.counts.items spot.point number
  pub sums_room : vec_capacity new.sums ≡ vec_capacity old.sums
  pub counts_room : vec_capacity new.counts ≡ vec_capacity old.counts

-- the spread of the points whose spots come first is put
pub record IsSpreading (layout : Layout) (boxes : List AreaBox) (number : ℕ) (tables : Tables) : Type 0 where
  pub tables_are : AreTables tables
  pub sweep : IsSweep tables.sweep
  pub edges : IsPermutation (edges_of layout.xs.numbers.items layout.ys.numbers.items boxes) tables.sweep.edges.items
  pub ranks : length tables.sweep.amounts.nodes.items ≡ length layout.ys.numbers.items + 1
  pub passed : (k : ℕ) (d : Spot) → number ≤ k → k < length layout.spots.items
      → All (λ edge. edge.place ≤ (slice_index_or layout.spots.items k d).place) (take tables.sweep.next tables.sweep.edges.items)
  pub long_sums : length tables.sums.items ≡ length layout.points.items
  pub long_counts : length tables.counts.items ≡ length layout.points.items
  pub sums : (k : ℕ) (d : Spot) (e : ℤ) → k < number → let i = (slice_index_or layout.spots.items k d).point in slice_index_or tables.sums.items i e ≡ sum_at boxes (point_at layout.points.items i)
  pub counts : (k : ℕ) (d : Spot) (e : ℕ) → k < number → let i = (slice_index_or layout.spots.items k d).point in slice_index_or tables.counts.items i e ≡ count_at boxes (point_at layout.points.items i)
