-- What a task has told and given so far.
use Rattle.std.specs.Prelude.{◌≡◌, ℕ, ◌+◌, ◌<◌, ◌≤◌, nat_lt, Bool, true, false, List, [], ◌++◌, length, Option, None}
use Rattle.std.specs.List.{list_all}
use Rattle.sgl_values.specs.Least.{least_of}
use Rattle.sgl_values.specs.ItemOrder.{item_fault_cmp}
use Rattle.sgl_values.specs.declared.fault.Tag.{Tag}
use Rattle.sgl_values.specs.declared.item.Item.{Item}
use Rattle.sgl_values.specs.declared.item.ItemFault.{ItemFault}
use Rattle.sgl_typed.specs.Tick.{item_faults}
use Rattle.effect_combine.specs.Batch.{Held}
use Rattle.effect_combine.specs.declared.cell.Cell.{Cell}
use Rattle.tick_core.specs.Standing.{StandForItems}
use Rattle.tick_core.specs.declared.event.Give.{Give}
use Rattle.effect_board.specs.Handles.{view_of, rows_of, tags_of, IsSeatOf}
use Rattle.effect_board.specs.Views.{giving_all, IsOnBoard}
use Rattle.effect_board.specs.declared.handles.EffectBoard.{EffectBoard}
use Rattle.effect_board.specs.declared.handles.Seat.{Seat}
use Rattle.effect_board.specs.declared.view.View.{View}
use Rattle.plan_executor.specs.Giving.{StandTogether, IsGiven}
use Rattle.plan_executor.specs.declared.outlet.Outlet.{Outlet}
use Rattle.task_scratch.specs.Job.{item_fits}
use Rattle.task_scratch.specs.declared.sink.Sink.{Sink}

-- the rows and tags of the board, and the limit of items
pub record Bounds : Type 0 where
  pub rows : ℕ
  pub tags : List Tag
  pub limit : ℕ

abbrev pub bounds_of : Outlet → Bounds
bounds_of out = record { rows = rows_of out.board.now; tags = tags_of out.board.now; limit = out.limit }

-- what was told and given, with what the batch still holds
pub record State : Type 0 where
  pub over : Bool
  pub items : ℕ
  pub least : Option ItemFault
  pub cells : List Cell
  pub view : View

abbrev pub state_of : Sink → Seat → State
state_of sink seat = record { over = sink.over; items = sink.items; least = sink.least; cells = sink.batch.cells; view = view_of seat }

-- all that is told of items within the limit
pub record HoldsWhole (bounds : Bounds) (before : ℕ) (state : State) (gives : List Give) (items : List Item) : Type 0 where
  pub counted : state.items ≡ before + length items
  pub least : state.least ≡ least_of item_fault_cmp (item_faults items)
  pub fit : list_all item_fits items ≡ true
  pub stand : StandTogether bounds.rows bounds.tags gives state.cells items

-- since this start, behind so many earlier items
pub record Holds (bounds : Bounds) (before : ℕ) (start : View) (state : State) (items : List Item) : Type 0 where
  pub gives : List Give
  pub added : state.view ≡ giving_all start gives
  pub over : state.over ≡ nat_lt bounds.limit (before + length items)
  pub whole : state.over ≡ false → HoldsWhole bounds before state gives items

-- these items were told and given
pub record Pushes (bounds : Bounds) (old new : State) (more : List Item) : Type 0 where
  pub pushes : (before : ℕ) (start : View) (items : List Item) → Holds bounds before start old items → Holds bounds before start new (items ++ more)

-- what is still to come of items
pub record Leads (bounds : Bounds) (start now : State) (rest whole : List Item) : Type 0 where
  pub leads : (final : State) → Pushes bounds now final rest → Pushes bounds start final whole

-- the seat and the batch are of the board
pub record IsReady (board : EffectBoard) (seat : Seat) (batch : Held) : Type 0 where
  pub of : IsSeatOf board seat
  pub tags : batch.tags ≡ tags_of board
  pub cells : IsOnBoard (rows_of board) (tags_of board) batch.cells

-- these items were given since this start, with what the batch still holds
abbrev pub GaveItems : EffectBoard → View → Seat → Held → List Item → Type 0
GaveItems board start seat batch items = IsGiven (rows_of board) (tags_of board) start (view_of seat) batch.cells items

-- whether one more item is within the limit
pub record IsCounted (limit : ℕ) (old : Sink) (room : Bool) (new : Sink) : Type 0 where
  pub within : room ≡ true → (old.over ≡ false) × ((old.items < limit) × (new ≡ record old { items = old.items + 1 }))
  pub past : room ≡ false → (old.over ≡ false → limit ≤ old.items) × (new ≡ record old { over = true })

-- all that is told of items within the limit, where the batch is empty
pub record EndedWhole (bounds : Bounds) (before : ℕ) (state : State) (gives : List Give) (items : List Item) : Type 0 where
  pub counted : state.items ≡ before + length items
  pub least : state.least ≡ least_of item_fault_cmp (item_faults items)
  pub fit : list_all item_fits items ≡ true
  pub stand : StandForItems bounds.rows bounds.tags gives items

-- what is told and given at the end of a task, where the batch is empty
pub record Ended (bounds : Bounds) (before : ℕ) (start : View) (state : State) (items : List Item) : Type 0 where
  pub gives : List Give
  pub added : state.view ≡ giving_all start gives
  pub over : state.over ≡ nat_lt bounds.limit (before + length items)
  pub whole : state.over ≡ false → EndedWhole bounds before state gives items

-- a task may begin, behind so many items
pub record Begins (limit : ℕ) (sink : Sink) : Type 0 where
  pub least : sink.least ≡ None
  pub over : sink.over ≡ nat_lt limit sink.items
  pub empty : sink.batch.cells ≡ []
