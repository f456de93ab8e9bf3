-- Blocks of rows in front of `post`, each row a lane.
use Rattle.std.specs.Prelude.{◌≡◌, ℕ, ◌+◌, ◌<◌, ◌≤◌, ◌==◌, ℤ, Bool, true, if◌then◌else◌, List, [], ◌∷◌, length, map, take, slice_index_or, Option, None}
use Rattle.sgl_values.specs.ItemOrder.{fault_cmp}
use Rattle.sgl_values.specs.Least.{least_of}
use Rattle.sgl_values.specs.Range.{in_range}
use Rattle.sgl_values.specs.World.{row_at}
use Rattle.sgl_values.specs.declared.fault.Fault.{Fault}
use Rattle.sgl_values.specs.declared.fault.Val.{Val}
use Rattle.sgl_values.specs.declared.item.Item.{Item}
use Rattle.sgl_typed.specs.Aggregate.{simple_value}
use Rattle.sgl_typed.specs.Tick.{assigned, cells_from, faults_of, post_context, removal_value, spawn_value, wide_cell, with_values}
use Rattle.sgl_typed.specs.Value.{Context}
use Rattle.sgl_typed.specs.declared.script.TExpr.{TExpr}
use Rattle.sgl_typed.specs.declared.script.TRule.{TRule}
use Rattle.sgl_lanes.specs.Lanes.{Holds, lane_of}
use Rattle.sgl_lanes.specs.declared.kind.Lanes.TheVariants.{Numbers}
use Rattle.tick_postprocess.specs.Answer.{AreWords}
use Rattle.tick_postprocess.specs.declared.block.Block.{Block}
use Rattle.tick_postprocess.specs.declared.row.Ending.{Ending}
use Rattle.tick_postprocess.specs.declared.row_lanes.NewLanes.{NewLanes}
use Rattle.tick_postprocess.specs.declared.row_lanes.RowLanes.{RowLanes}
use Rattle.sgl_lanes.specs.declared.values.LaneValues.{LaneValues}
use Rattle.sgl_values.specs.declared.limit.TheConstants.{EFFECTS_MAX}
use Rattle.sgl_lanes.specs.declared.lane_set.TheConstants.{LANES}

-- the cells of a lane, of which each list has those of an effect attribute
abbrev pub cells_in : Ending → List (List ℤ) → ℕ → List ℤ
cells_in e cells lane = take (length e.tick.script.now.schema.effects) (map (λ column. lane_of column lane) cells)

-- what the expressions of a lane read
abbrev pub context_in : Ending → ℕ → List (List ℤ) → ℕ → Context
context_in e first cells lane = post_context e.tick.script.now e.tick.world.now.world e.tick.seed (cells_in e cells lane) (row_at e.tick.world.now.world (first + lane))

-- the same, from what tells it
abbrev pub lane_context : RowLanes → ℕ → Context
lane_context it = context_in it.ending.now it.first it.cells.now

-- the values of a lane, of which each list has those of an attribute
abbrev pub values_in : Ending → List (List ℤ) → ℕ → List ℤ
values_in e values lane = take e.tick.world.now.width (map (λ column. lane_of column lane) values)

-- what the expressions of a lane read behind the assignments
abbrev pub context_after : Ending → ℕ → List (List ℤ) → List (List ℤ) → ℕ → Context
context_after e first cells values lane =
    post_context e.tick.script.now e.tick.world.now.world e.tick.seed (cells_in e cells lane) record { key = (row_at e.tick.world.now.world (first + lane)).key; values = values_in e values lane }

-- the same, from what tells it
abbrev pub new_context : NewLanes → ℕ → Context
new_context it = context_after it.old.ending.now it.old.first it.old.cells.now it.values.now

-- the lane is one of 64, and its row is in the world
pub record CanRead (it : RowLanes) (lane : ℕ) : Type 0 where
  pub below : lane < LANES
  pub row : it.first + lane < length it.ending.now.tick.world.now.world.rows
  pub narrow : length it.ending.now.tick.script.now.schema.effects ≤ EFFECTS_MAX

abbrev pub CanReadNew : NewLanes → ℕ → Type 0
CanReadNew it = CanRead it.old

-- what is known of these right sides in a lane is their values; it may be known of the first ones alone
abbrev pub AreKnown : List LaneValues → ℕ → Context → List TRule → Type 0
AreKnown values lane c rules =
    (at : ℕ) (known : LaneValues) (rule : TRule) → at < length values → at < length rules → rule ≡ slice_index_or rules at rule
    → Holds (slice_index_or values at known).kind (lane_of (slice_index_or values at known).numbers lane) (simple_value c rule.value)

-- it is known of so many right sides that they are numbers
pub record AreNumbers (values : List LaneValues) (count : ℕ) : Type 0 where
  pub long : count ≤ length values
  pub numbers : (at : ℕ) (known : LaneValues) → at < count → (slice_index_or values at known).kind ≡ Numbers

-- the numbers of the first rule that assigns an attribute, or else the old ones
abbrev pub chosen : List TRule → List LaneValues → ℕ → List ℤ → List ℤ
chosen [] known attr old = old
chosen (rule ∷ rules) [] attr old = old
chosen (rule ∷ rules) (values ∷ known) attr old = if rule.attr == attr then values.numbers else chosen rules known attr old

-- the value of a condition that may be there, as `remove when`: false where there is none
abbrev pub condition_value : Option TExpr → Context → Val
condition_value = removal_value

-- the cells of a row, where none of them is outside the range
abbrev pub AreCells : Ending → ℕ → List ℤ → Type 0
AreCells e row cells =
    (items : List Item) → AreWords e.tick.script.now.schema.effects e.combined.now items → wide_cell 0 (cells_from items row 0 e.tick.script.now.schema.effects) ≡ None
    → cells ≡ cells_from items row 0 e.tick.script.now.schema.effects

-- each lane up to the end has the cells of its row
abbrev pub AreAllCells : Ending → ℕ → ℕ → List (List ℤ) → Type 0
AreAllCells e first end cells = (lane : ℕ) → first + lane < end → AreCells e (first + lane) (cells_in e cells lane)

-- no row up to the end has a cell outside the range
abbrev pub AreClear : Ending → ℕ → ℕ → Type 0
AreClear e first end = (items : List Item) → AreWords e.tick.script.now.schema.effects e.combined.now items
    → (row : ℕ) → first ≤ row → row < end → wide_cell 0 (cells_from items row 0 e.tick.script.now.schema.effects) ≡ None

-- the number is the cell where that is in the range, and it is so where it is told
pub record IsPut (cell number : ℤ) (told : Bool) : Type 0 where
  pub fits : told ≡ true → in_range cell ≡ true
  pub number_is : in_range cell ≡ true → number ≡ cell

-- all assignments at once over the values of the unit: the new values, and the least fault of the right sides
pub record IsAssigned (rules : List TRule) (c : Context) (after : List ℤ) (least : Option Fault) : Type 0 where
  pub values : after ≡ with_values (assigned c rules) c.unit.values
  pub fault : least ≡ least_of fault_cmp (faults_of (assigned c rules))

-- each lane up to the end has the new values of its row, and its least fault
abbrev pub AreAssigned : Ending → ℕ → ℕ → List (List ℤ) → List (List ℤ) → List (Option Fault) → Type 0
AreAssigned e first end cells new faults = (lane : ℕ) → first + lane < end
    → IsAssigned e.tick.script.now.rules (context_in e first cells lane) (values_in e new lane) (slice_index_or faults lane None)

-- At most 64 rows of the world, with their cells and new values; what is known of `spawn when` and `remove when` is their
-- values over the new ones.
pub record IsBlock (e : Ending) (b : Block) : Type 0 where
  pub inside : b.end ≤ length e.tick.world.now.world.rows
  pub few : b.end ≤ b.first + 64
  pub cells : AreAllCells e b.first b.end b.cells
  pub assigned : AreAssigned e b.first b.end b.cells b.changed b.faults
  pub quiet : b.quiet ≡ true → (lane : ℕ) → b.first + lane < b.end → slice_index_or b.faults lane None ≡ None
  pub spawning : (lane : ℕ) → b.first + lane < b.end
      → Holds b.spawning.kind (lane_of b.spawning.numbers lane) (spawn_value e.tick.script.now.spawn (context_after e b.first b.cells b.changed lane))
  pub removal : (lane : ℕ) → b.first + lane < b.end
      → Holds b.removal.kind (lane_of b.removal.numbers lane) (removal_value e.tick.script.now.removal (context_after e b.first b.cells b.changed lane))

-- the row is one of the block
pub record HasRow (b : Block) (row : ℕ) : Type 0 where
  pub from : b.first ≤ row
  pub below : row < b.end
