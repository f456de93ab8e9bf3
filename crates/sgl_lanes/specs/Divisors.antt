-- Divisors with their inverses.
use Rattle.std.specs.Prelude.{ℕ, ◌<◌, ◌≤◌, ◌+◌, ◌*◌, ◌^◌}
use Rattle.sgl_lanes.specs.declared.divisor.Divisor.{Divisor}
use Rattle.sgl_lanes.specs.declared.long_divisor.LongDivisor.{LongDivisor}

-- a power over a number, rounded up
pub record IsInverse (inverse power number : ℕ) : Type 0 where
  pub over : power ≤ inverse * number
  pub up : inverse * number < power + number

-- a divisor below 2^20 with its inverse: a power of 2 over it, which is above all short numbers times the divisor
pub record IsDivisor (divisor : Divisor) : Type 0 where
  pub from : 2 ≤ divisor.number
  pub below : divisor.number < 1048576
  pub shifted : divisor.shift < 64
  pub reach : 1073741824 * divisor.number < 2 ^ divisor.shift
  pub inverse : IsInverse divisor.inverse (2 ^ divisor.shift) divisor.number

-- the same with 2^64 over it
pub record IsLongDivisor (divisor : LongDivisor) : Type 0 where
  pub from : 2 ≤ divisor.number
  pub below : divisor.number < 1048576
  pub inverse : IsInverse divisor.inverse 18446744073709551616 divisor.number
