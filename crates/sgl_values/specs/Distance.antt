-- Distances in the plane, as their squares, and circles.
use Rattle.std.specs.Prelude.{ℤ, pos, ◌+ℤ◌, ◌-ℤ◌, ◌*ℤ◌, int_le, ◌&&◌, Bool}

-- a number times itself
abbrev pub square : ℤ → ℤ
square z = z *ℤ z

-- the square of the distance of the points (x, y) and (a, b)
abbrev pub squared_distance : (x y a b : ℤ) → ℤ
squared_distance x y a b = square (a -ℤ x) +ℤ square (b -ℤ y)

-- a point at this squared distance from the centre lies in the circle of this radius; a radius below 0 has no circle
abbrev pub is_in_circle : ℤ → ℤ → Bool
is_in_circle radius distance = int_le (pos 0) radius && int_le distance (square radius)
