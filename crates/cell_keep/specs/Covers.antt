-- The cells that a circle reaches.
use Rattle.std.specs.Prelude.{◌≡◌, ℕ, ◌*◌, ◌≤◌, ℤ, pos, negsuc, ◌≤ℤ◌, ◌<ℤ◌, ◌+ℤ◌, ◌-ℤ◌, Bool, ◌&&◌, int_le, int_lt, unsigned_abs}
use Rattle.std.specs.Ordering.{int_eq}
use Rattle.cell_keep.specs.declared.circle.Circle.{Circle}
use Rattle.cell_keep.specs.declared.span.Span.{Span}
use Rattle.cell_keep.specs.declared.span.Square.{Square}
use Rattle.cell_keep.specs.declared.point.KeepPoint.{KeepPoint}
use Rattle.cell_keep.specs.declared.point.Sums.{Sums}
use Rattle.cell_keep.specs.Circles.{is_within}
use Rattle.cell_keep.specs.declared.point.Cell.{Cell}
use Rattle.cell_keep.specs.Grid.{is_in_cell, is_same_group, quotient}

-- a point that the circle counts
abbrev pub is_counted : Circle → KeepPoint → Bool
is_counted circle point = is_within circle.x circle.y circle.radius circle.group point

-- one of so many whole numbers from the first on
abbrev pub is_from : ℤ → ℕ → ℤ → Bool
is_from first count z = int_le first z && int_lt z (first +ℤ pos count)

-- cells from that of the least number at most so far from a centre to that of the greatest
abbrev pub IsSpan : ℤ → ℤ → Span → Type 0
IsSpan centre radius span =
    (span.first ≡ quotient (centre -ℤ radius)) × (quotient (centre +ℤ radius) <ℤ (span.first +ℤ pos span.count)) × (negsuc 2000000000000 ≤ℤ span.first) × (span.first ≤ℤ pos 2000000000000)

-- the cells of the square around a circle
abbrev pub IsSquareOf : Circle → Square → Type 0
IsSquareOf circle square = IsSpan circle.x circle.radius square.across × IsSpan circle.y circle.radius square.up

-- a counted point in a cell
abbrev pub is_counted_in : Circle → Cell → KeepPoint → Bool
is_counted_in circle cell point = is_counted circle point && is_in_cell cell point

-- a counted point in so many cells one above the other, from the lowest on
abbrev pub is_counted_along : Circle → Cell → ℕ → KeepPoint → Bool
is_counted_along circle lowest cells point =
    is_counted circle point && (is_same_group point.group lowest.group && (int_eq (quotient point.x) lowest.cx && is_from lowest.cy cells (quotient point.y)))

-- a counted point in the columns of a square, up to before a column
abbrev pub is_counted_before : Circle → Square → ℕ → KeepPoint → Bool
is_counted_before circle square columns point =
    is_counted circle point && (is_from square.across.first columns (quotient point.x) && is_from square.up.first square.up.count (quotient point.y))

-- the cell so many cells above another
abbrev pub cell_above : Cell → ℕ → Cell
cell_above lowest cells = record { group = lowest.group; cx = lowest.cx; cy = lowest.cy +ℤ pos cells }

-- the lowest cell of a column of a square
abbrev pub foot : Circle → Square → ℕ → Cell
foot circle square column = record { group = circle.group; cx = square.across.first +ℤ pos column; cy = square.up.first }

-- the sum of so many weights
abbrev pub IsBounded : Sums → Type 0
IsBounded sums = unsigned_abs sums.sum ≤ 1000000000000 * sums.count
