-- Seats of workers at a board, before and after they are joined into the first.
use Rattle.std.specs.Prelude.{◌≡◌, ◌≢◌, ℕ, ◌+◌, length}
use Rattle.effect_board.specs.declared.handles.Seat.{Seat}
use Rattle.effect_board.specs.declared.handles.EffectBoard.{EffectBoard}
use Rattle.effect_board.specs.Handles.{view_of, rows_of, tags_of, IsSeatOf}

-- a board of two rows and four attributes
abbrev pub IsSmall : EffectBoard → Type 0
IsSmall board = (rows_of board ≡ 2) × (length (tags_of board) ≡ 4)

-- a seat that no other was joined into
pub record IsWorker (board : EffectBoard) (seat : Seat) : Type 0 where
  pub of : IsSeatOf board seat
  pub one : (view_of seat).seats ≡ 1

-- a seat that is not the first
abbrev pub IsLater : Seat → Type 0
IsLater seat = (view_of seat).number ≢ 0

-- a seat's number and the number of seats that it made stay as they are
pub record IsSame (old new : Seat) : Type 0 where
  pub number : (view_of new).number ≡ (view_of old).number
  pub made : (view_of new).made ≡ (view_of old).made

-- the first seat, into which all others but so many were joined
pub record IsGathering (board : EffectBoard) (left : ℕ) (seat : Seat) : Type 0 where
  pub of : IsSeatOf board seat
  pub first : (view_of seat).number ≡ 0
  pub all : (view_of seat).seats + left ≡ (view_of seat).made
