-- The lines of a world.
use Rattle.std.specs.Prelude.{ℕ, ℤ, List, [], ◌∷◌, ◌++◌, flat_map, codes, decimal}
use Rattle.std.specs.Fmt.{signed_decimal}
use Rattle.sgl_values.specs.World.{Row, World}
use Rattle.sgl_typed.specs.declared.schema.Schema.{Schema}

-- the values, each behind a comma
abbrev pub values_text : List ℤ → List ℕ
values_text [] = []
values_text (v ∷ vs) = 44 ∷ (signed_decimal v ++ values_text vs)

-- the names, each behind a comma
abbrev pub names_text : List (List ℕ) → List ℕ
names_text [] = []
names_text (name ∷ names) = 44 ∷ (name ++ names_text names)

-- the first line of a world
abbrev pub tick_text : ℕ → List ℕ
tick_text tick = codes "# tick " ++ (decimal tick ++ (10 ∷ []))

-- the header: `key` and the names of the const attributes, joined by commas
abbrev pub header_text : List (List ℕ) → List ℕ
header_text names = codes "key" ++ (names_text names ++ (10 ∷ []))

-- the line of a unit: its key and its values, joined by commas
abbrev pub row_text : Row → List ℕ
row_text row = decimal row.key ++ (values_text row.values ++ (10 ∷ []))

abbrev pub rows_text : List Row → List ℕ
rows_text rows = flat_map row_text rows

-- the lines of a world
abbrev pub world_text : World → Schema → List ℕ
world_text world schema = tick_text world.tick ++ (header_text schema.consts ++ rows_text world.rows)
