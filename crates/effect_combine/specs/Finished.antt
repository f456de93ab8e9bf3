-- The cell that a word is finished to.
use Rattle.std.specs.Prelude.{ℤ, Result, Ok, Err, if◌then◌else◌}
use Rattle.sgl_values.specs.Range.{in_range}
use Rattle.effect_combine.specs.declared.finished.CellOverflow.{CellOverflow}

-- a cell, where it is in the range of values
abbrev pub cell_or_overflow : ℤ → Result ℤ CellOverflow
cell_or_overflow z = if in_range z then Ok z else Err record { total = z }
