-- Clauses of effects that go by a key alone, for all rows of a set side by side.
use Rattle.std.specs.Prelude.{◌≡◌, ◌≢◌, ◌<◌, ◌≤◌, ◌+◌, [], ◌∷◌, ◌++◌, ℕ, ℤ, pos, true, false, All, List, map, length, slice_get, slice_index_or, Some, None}
use Rattle.sgl_values.specs.Amounts.{plain_amount}
use Rattle.sgl_values.specs.World.{World, row_at}
use Rattle.sgl_values.specs.declared.fault.Val.{Val}
use Rattle.sgl_values.specs.declared.fault.Val.TheVariants.{N}
use Rattle.sgl_values.specs.declared.item.Item.{Item}
use Rattle.sgl_values.specs.declared.item.Item.TheVariants.{Effect}
use Rattle.sgl_typed.specs.Aggregate.{simple_value}
use Rattle.sgl_typed.specs.Items.{written, writes}
use Rattle.sgl_typed.specs.Value.{Context}
use Rattle.sgl_typed.specs.declared.script.TExpr.{TExpr}
use Rattle.sgl_typed.specs.declared.script.TExpr.TheVariants.{Slot}
use Rattle.sgl_typed.specs.declared.script.TWrite.{TWrite}
use Rattle.battle_algebra.specs.Meaning.{Frame, effects}
use Rattle.battle_algebra.specs.declared.plan.EffectUse.{EffectUse}
use Rattle.sgl_lanes.specs.Lanes.{has, held, lane_of, Holds}
use Rattle.sgl_lanes.specs.declared.kind.Lanes.TheVariants.{Unknown}
use Rattle.sgl_lanes.specs.declared.values.LaneValues.{LaneValues}
use Rattle.plan_executor.specs.Frames.{Slots, members, with_slots}
use Rattle.plan_executor.specs.Running.{base_of}
use Rattle.plan_executor.specs.declared.aiming.Aims.{Aims}
use Rattle.plan_executor.specs.declared.clause_lanes.ClauseLanes.{ClauseLanes}
use Rattle.plan_executor.specs.declared.run.Run.{Run}
use Rattle.sgl_values.specs.declared.limit.TheConstants.{TASK_ROWS}

-- ---- arguments in lanes

-- the values of an argument with this number
abbrev pub lanes_at : List LaneValues → ℕ → LaneValues
lanes_at lanes i = slice_index_or lanes i record { kind = Unknown; numbers = [] }

-- the value of an argument in a lane
abbrev pub arg_at : ℕ → LaneValues → Val
arg_at k values = held values.kind (lane_of values.numbers k)

-- it is known, and the number of the lane stands for it
pub record IsHeld (k : ℕ) (values : LaneValues) : Type 0 where
  pub known : values.kind ≢ Unknown
  pub holds : Holds values.kind (lane_of values.numbers k) (arg_at k values)

-- the row of a target
abbrev pub target_of : List ℕ → ℕ → ℕ
target_of targets k = slice_index_or targets k 0

-- the values of the arguments of a row
abbrev pub values_of : (ℕ → Frame) → Slots → List TExpr → Slots
values_of base slots exprs k = map (simple_value (with_slots base slots k)) exprs

-- a row whose slots are its arguments
abbrev pub with_args : (ℕ → Frame) → List LaneValues → ℕ → Frame
with_args base args k = record (base k) { slots = map (arg_at k) args }

-- the same with a target
abbrev pub with_target : World → Frame → ℕ → Frame
with_target world frame target = record frame { target = row_at world target }

-- the frame of a lane
abbrev pub clause_frame : ClauseLanes → ℕ → Context
clause_frame it k = with_target it.run.now.tick.world.now.world (with_args (base_of it.run.now) it.args.now k) (target_of it.targets.now k)

-- the lane is one of 64, its row and its target are in the world, and its arguments are held
pub record CanReadClause (it : ClauseLanes) (lane : ℕ) : Type 0 where
  pub below : lane < TASK_ROWS
  pub row : it.run.now.first + lane < length it.run.now.tick.world.now.world.rows
  pub target : target_of it.targets.now lane < length it.run.now.tick.world.now.world.rows
  pub held : All (IsHeld lane) it.args.now

-- these lanes hold the arguments of the rows of a set
pub record AreArgs (base : ℕ → Frame) (slots : Slots) (exprs : List TExpr) (mask : ℕ) (args : List LaneValues) : Type 0 where
  pub held : (k : ℕ) → has mask k ≡ true → All (IsHeld k) args
  pub values : (k : ℕ) → has mask k ≡ true → map (arg_at k) args ≡ values_of base slots exprs k

-- the first of them do
pub record ReadFirst (base : ℕ → Frame) (slots : Slots) (exprs : List TExpr) (mask count : ℕ) (args : List LaneValues) : Type 0 where
  pub known : (i : ℕ) → i < count → (lanes_at args i).kind ≢ Unknown
  pub hold : (i k : ℕ) (e : TExpr) → i < count → has mask k ≡ true
      → Holds (lanes_at args i).kind (lane_of (lanes_at args i).numbers k) (simple_value (with_slots base slots k) (slice_index_or exprs i e))

-- ---- targets

-- a row has a target that has the key, or no row has it
pub record AimsBy (world : World) (key : ℤ) (row : ℕ) (aims : Aims) : Type 0 where
  pub within : has aims.aimed row ≡ true → target_of aims.targets row < length world.rows
  pub hit : has aims.aimed row ≡ true → pos (row_at world (target_of aims.targets row)).key ≡ key
  pub miss : has aims.aimed row ≡ false → All (λ other. pos other.key ≢ key) world.rows

-- all other rows have the targets that they had
pub record AimsElse (row : ℕ) (old new : Aims) : Type 0 where
  pub aimed : (k : ℕ) → k ≢ row → has new.aimed k ≡ has old.aimed k
  pub targets : (k : ℕ) → k ≢ row → target_of new.targets k ≡ target_of old.targets k

-- the rows of a set that have a target go to the row with the key that the expression gives; for the others there is none
pub record AreAims (world : World) (frame : ℕ → Frame) (right : TExpr) (mask : ℕ) (aims : Aims) : Type 0 where
  pub part : (k : ℕ) → has aims.aimed k ≡ true → has mask k ≡ true
  pub key : ℕ → ℤ
  pub asked : (k : ℕ) → has mask k ≡ true → simple_value (frame k) right ≡ N (key k)
  pub found : (k : ℕ) → has mask k ≡ true → AimsBy world (key k) k aims

-- the rows of a set with these targets
abbrev pub aims_of : ℕ → List ℕ → Aims
aims_of aimed targets = record { aimed = aimed; targets = targets }

-- ---- amounts

-- a write gives the number in this lane, and no fault
abbrev pub GivesNumber : Context → ℕ → ℕ → TWrite → LaneValues → Type 0
GivesNumber c target row write values =
    written c target write (simple_value c write.amount) ≡ Effect target write.effect (plain_amount (lane_of values.numbers row))

-- a write gives one of the arguments as it stands, with no priority
pub record GivesArg (exprs : List TExpr) (write : TWrite) (arg : TExpr) : Type 0 where
  pub slot : ℕ
  pub amount : write.amount ≡ Slot slot
  pub is : slice_get exprs slot ≡ Some arg
  pub plain : write.by ≡ None

-- each of them does
pub record GiveNumbers (c : Context) (target row : ℕ) (writing : List TWrite) (amounts : List LaneValues) : Type 0 where
  pub room : length writing ≤ length amounts
  pub give : (i : ℕ) (write : TWrite) → i < length writing → GivesNumber c target row (slice_index_or writing i write) (lanes_at amounts i)

-- the rows of a set that have a target give the numbers of their lanes there, the others nothing
pub record GiveBy (run : Run) (slots : Slots) (act : EffectUse) (mask : ℕ) (writing : List TWrite) (aims : Aims) (amounts : List LaneValues) : Type 0 where
  pub room : length writing ≤ length amounts
  pub frame : ℕ → Context
  pub part : (k : ℕ) → has aims.aimed k ≡ true → has mask k ≡ true
  pub within : (k : ℕ) → has aims.aimed k ≡ true → target_of aims.targets k < length run.tick.world.now.world.rows
  pub numbers : (k : ℕ) → has aims.aimed k ≡ true → GiveNumbers (frame k) (target_of aims.targets k) k writing amounts
  pub hit : (k : ℕ) → has aims.aimed k ≡ true → writes (frame k) (target_of aims.targets k) writing ≡ effects act (with_slots (base_of run) slots k)
  pub miss : (k : ℕ) → has mask k ≡ true → has aims.aimed k ≡ false → effects act (with_slots (base_of run) slots k) ≡ []

-- ---- items, column by column

-- the item of a write in a lane
abbrev pub lane_item : Aims → TWrite → LaneValues → ℕ → Item
lane_item aims write values k = Effect (target_of aims.targets k) write.effect (plain_amount (lane_of values.numbers k))

-- the items of a write in all lanes that have a target
abbrev pub column : Aims → TWrite → LaneValues → List Item
column aims write values = map (lane_item aims write values) (members aims.aimed)

-- the items of all writes
abbrev pub columns : Aims → List TWrite → List LaneValues → List Item
columns aims [] amounts = []
columns aims (write ∷ writing) [] = []
columns aims (write ∷ writing) (values ∷ amounts) = column aims write values ++ columns aims writing amounts

-- the items of all writes in one lane
abbrev pub items_at : Aims → List TWrite → List LaneValues → ℕ → List Item
items_at aims [] amounts k = []
items_at aims (write ∷ writing) [] k = []
items_at aims (write ∷ writing) (values ∷ amounts) k = lane_item aims write values k ∷ items_at aims writing amounts k
