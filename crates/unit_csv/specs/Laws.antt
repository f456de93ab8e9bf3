-- Laws of unit tables.
use Rattle.std.specs.Prelude.{List}
use Rattle.std.specs.List.Sorted.{IsPermutation}
use Rattle.sgl_values.specs.World.{Row}
use Rattle.unit_csv.specs.Units.{by_key}

-- rows by rising key are the same rows, each as often
abbrev pub RowsAreKept : Type 0
RowsAreKept = (rows : List Row) → IsPermutation rows (by_key rows)
