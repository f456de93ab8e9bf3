-- The sides of an operation.
use Rattle.std.specs.Prelude.{ℕ, ℤ}
use Rattle.sgl_lanes.specs.Lanes.{lane_of}
use Rattle.sgl_lanes.specs.declared.side.Standing.{Standing}

-- the number of a side in a lane
abbrev pub standing_at : Standing → ℕ → ℤ
standing_at (Standing.Lanes numbers) k = lane_of numbers.now k
standing_at (Standing.Number number) k = number
