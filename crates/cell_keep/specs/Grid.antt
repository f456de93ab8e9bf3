-- Cells: squares of 64 by 64, apart for each group.
use Rattle.std.specs.Prelude.{◌==◌, ℕ, ◌*◌, ◌/◌, ◌%◌, ◌^◌, ℤ, pos, Bool, ◌&&◌, bit_xor, List, find, filter, map, Option}
use mir.Syntax.{w64}
use Rattle.std.specs.Int.{cast_unsigned, int_div_euclid}
use Rattle.std.specs.Option.{option_map}
use Rattle.std.specs.Ordering.{int_eq}
use Rattle.cell_keep.specs.declared.point.Cell.{Cell}
use Rattle.cell_keep.specs.declared.point.Group.{Group}
use Rattle.cell_keep.specs.declared.point.KeepPoint.{KeepPoint}

-- the quotient by 64, rounded toward minus infinity
abbrev pub quotient : ℤ → ℤ
quotient z = int_div_euclid z (pos 64)

-- the cell of a point
abbrev pub cell_of : KeepPoint → Cell
cell_of point = record { group = point.group; cx = quotient point.x; cy = quotient point.y }

abbrev pub is_same_group : Group → Group → Bool
is_same_group g h = int_eq g.a h.a && (int_eq g.b h.b && (int_eq g.c h.c && int_eq g.d h.d))

abbrev pub is_same_cell : Cell → Cell → Bool
is_same_cell c d = is_same_group c.group d.group && (int_eq c.cx d.cx && int_eq c.cy d.cy)

abbrev pub is_in_cell : Cell → KeepPoint → Bool
is_in_cell cell point = is_same_cell (cell_of point) cell

-- the cell of the point with a key
abbrev pub cell_with : ℕ → List KeepPoint → Option Cell
cell_with key points = option_map cell_of (find (λ point. point.key == key) points)

-- the keys of the points in a cell
abbrev pub keys_in : Cell → List KeepPoint → List ℕ
keys_in cell points = map (λ point. point.key) (filter (is_in_cell cell) points)

-- ---- where the points of a cell stand

-- a number more is mixed into a word
abbrev pub mixed : ℕ → ℤ → ℕ
mixed word number = bit_xor word (cast_unsigned w64 number) * 0x9E3779B97F4A7C15 % 2 ^ 64

-- the list of a cell, of 65,536; other cells may have the same one
unfoldable pub list_of : Cell → ℕ
list_of cell =
    let group = mixed (mixed (mixed (mixed 0 cell.group.a) cell.group.b) cell.group.c) cell.group.d in
    mixed (mixed group cell.cx) cell.cy / 2 ^ 48
