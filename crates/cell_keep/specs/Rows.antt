-- The points of rows.
use Rattle.std.specs.Prelude.{ℕ, pos, List, [], ◌∷◌, ◌++◌, map, slice_index_or, Option, option_to_list}
use Rattle.cell_keep.specs.declared.point.KeepPoint.{KeepPoint}

-- what stands past the end of the points
abbrev pub no_point : KeepPoint
no_point = record { key = 0; group = record { a = pos 0; b = pos 0; c = pos 0; d = pos 0 }; x = pos 0; y = pos 0; weight = pos 0 }

-- the points of rows
abbrev pub points_at : List KeepPoint → List ℕ → List KeepPoint
points_at points rows = map (λ row. slice_index_or points row no_point) rows

-- the rows that are told
abbrev pub rows_in : List (Option ℕ) → List ℕ
rows_in [] = []
rows_in (row ∷ rows) = option_to_list row ++ rows_in rows
