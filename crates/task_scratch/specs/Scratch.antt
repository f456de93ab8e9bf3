-- What a scratch was made for, and what a new one holds.
use Rattle.std.specs.Prelude.{◌≡◌, ◌≢◌, ◌<◌, ℕ, ℤ, false, List, [], length, slice_index_or, slice_set}
use Rattle.sgl_values.specs.declared.fault.Tag.{Tag}
use Rattle.sgl_values.specs.declared.fault.Val.{Val}
use Rattle.sgl_lanes.specs.Lanes.{has, held, lane_of, EachLane}
use Rattle.sgl_lanes.specs.declared.kind.Lanes.{Lanes}
use Rattle.battle_algebra.specs.declared.normal_plan.NormalPlan.{NormalPlan}
use Rattle.task_scratch.specs.declared.scratch.Scratch.{Scratch}
use Rattle.sgl_values.specs.declared.limit.TheConstants.{EFFECTS_MAX, PARAMS_MAX, TASK_ROWS}

-- the slots of a row
abbrev pub slots_in : List (List Val) → ℕ → List Val
slots_in rows row = slice_index_or rows row []

-- each row has so many slots
pub record AreWide (width : ℕ) (rows : List (List Val)) : Type 0 where
  pub is : (row : ℕ) → row < length rows → length (slots_in rows row) ≡ width

-- a slot of one row is set
pub record IsRowSet (row slot : ℕ) (value : Val) (old new : List (List Val)) : Type 0 where
  pub same : slots_in new row ≡ slice_set (slots_in old row) slot value
  pub other : (k : ℕ) → k ≢ row → slots_in new k ≡ slots_in old k

-- a slot is set for the rows of a set to what lanes hold
pub record AreLanesSet (slot mask : ℕ) (kind : Lanes) (numbers : List ℤ) (old new : List (List Val)) : Type 0 where
  pub inside : EachLane mask (λ k. slots_in new k ≡ slice_set (slots_in old k) slot (held kind (lane_of numbers k)))
  pub outside : (k : ℕ) → has mask k ≡ false → slots_in new k ≡ slots_in old k

-- the count of a node, and 0 past the last
abbrev pub reach_at : List ℕ → ℕ → ℕ
reach_at reach node = slice_index_or reach node 0

-- the scratch was made for a plan, and for effect attributes of these tags
pub record IsScratchFor (plan : NormalPlan) (tags : List Tag) (scratch : Scratch) : Type 0 where
  pub masks : length scratch.room.masks.items ≡ length plan.plan.nodes
  pub rows : length scratch.room.rows ≡ TASK_ROWS
  pub wide : AreWide plan.plan.slots scratch.room.rows
  pub frame : length scratch.room.frame.items ≡ plan.plan.slots
  pub args : length scratch.room.args.items ≡ PARAMS_MAX
  pub arg_lanes : length scratch.room.arg_lanes.items ≡ PARAMS_MAX
  pub amounts : length scratch.room.amounts.items ≡ EFFECTS_MAX
  pub reach : length scratch.room.reach.items ≡ length plan.plan.nodes
  pub tagged : scratch.sink.batch.tags ≡ tags
  pub empty : scratch.sink.batch.cells ≡ []

-- no task was run with the scratch
pub record IsNew (scratch : Scratch) : Type 0 where
  pub runs : scratch.runs ≡ 0
  pub items : scratch.sink.items ≡ 0
  pub reach : (node : ℕ) → reach_at scratch.room.reach.items node ≡ 0
