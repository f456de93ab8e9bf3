-- What many rows give side by side, each in its lane.
use Rattle.std.specs.Prelude.{ℕ, ℤ, pos, ◌==◌, Bool, List, filter, map, slice_index_or}
use Rattle.std.specs.Int.{bit_at}
use Rattle.std.specs.List.{range_with_len}
use Rattle.sgl_values.specs.Amounts.{plain_amount}
use Rattle.sgl_values.specs.declared.fault.Tag.{Tag}
use Rattle.tick_core.specs.declared.event.Give.{Give}
use Rattle.effect_board.specs.Views.{cell_of, give_of_cell}

-- the set has the lane
abbrev pub is_in : ℕ → ℕ → Bool
is_in lanes lane = bit_at lanes lane == 1

-- a number for this attribute of a row
abbrev pub number_give : List Tag → ℕ → ℕ → ℤ → Give
number_give tags attr row number = give_of_cell tags (cell_of tags row attr (plain_amount number))

-- what a lane gives
abbrev pub lane_give : List Tag → ℕ → List ℕ → List ℤ → ℕ → Give
lane_give tags attr rows numbers lane = number_give tags attr (slice_index_or rows lane 0) (slice_index_or numbers lane (pos 0))

-- what the lanes of a set from this one on give
abbrev pub gives_from : List Tag → ℕ → ℕ → List ℕ → List ℤ → ℕ → ℕ → List Give
gives_from tags attr lanes rows numbers first count = map (lane_give tags attr rows numbers) (filter (is_in lanes) (range_with_len first count))

-- what the lanes of a set give, one behind the other
abbrev pub lane_gives : List Tag → ℕ → ℕ → List ℕ → List ℤ → List Give
lane_gives tags attr lanes rows numbers = gives_from tags attr lanes rows numbers 0 64
