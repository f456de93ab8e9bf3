-- Lines and columns of a text.
use Rattle.std.specs.Prelude.{ℕ, ◌+◌, ◌==◌, List, [], ◌∷◌, if◌then◌else◌}
use Rattle.sgl_values.specs.declared.place.Place.{Place}

-- the place behind one byte: a line feed ends a line
abbrev pub place_behind : Place → ℕ → Place
place_behind p b = record { line = if b == 10 then p.line + 1 else p.line; col = if b == 10 then 1 else p.col + 1 }

-- the place behind these bytes
abbrev pub place_after : Place → List ℕ → Place
place_after p [] = p
place_after p (b ∷ bs) = place_after (place_behind p b) bs
