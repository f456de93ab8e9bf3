-- What contracts see of a board and of a seat.
use Rattle.std.specs.Prelude.{◌≡◌, ℕ, ◌*◌, Bool, List, ◌++◌, length}
use Rattle.sgl_values.specs.declared.fault.Tag.{Tag}
use Rattle.effect_board.specs.declared.view.View.{View}
use Rattle.effect_board.specs.Views.{gives_in, own_rows}
use Rattle.effect_board.specs.declared.handles.Seat.{Seat}
use Rattle.effect_board.specs.declared.handles.EffectBoard.{EffectBoard}

-- what the seat knows: its view under the rule of its board, with what it gave to words of its own
abbrev pub view_of : Seat → View
view_of seat = record seat.place.me.0 { gives = gives_in seat.told.numbers ++ seat.place.me.0.gives }

abbrev pub tasks_of : EffectBoard → ℕ
tasks_of board = board.layout.tasks

abbrev pub rows_of : EffectBoard → ℕ
rows_of board = board.layout.rows

abbrev pub tags_of : EffectBoard → List Tag
tags_of board = board.layout.tags.items

-- the board is for one worker alone
abbrev pub is_alone : EffectBoard → Bool
is_alone board = board.layout.alone

-- the seat is one of this board
pub record IsSeatOf (board : EffectBoard) (seat : Seat) : Type 0 where
  pub table : seat.place.table_id ≡ board.table.shared.table_id
  pub tasks : (view_of seat).tasks ≡ tasks_of board
  pub tags : (view_of seat).tags ≡ tags_of board
  pub own : length seat.own.items ≡ own_rows (is_alone board) (rows_of board) * length (tags_of board)
