-- Parts of lines: places, numbers among words, and names.
use Rattle.std.specs.Prelude.{ℕ, List, [], ◌∷◌, ◌++◌, codes, decimal, slice_index_or}
use Rattle.sgl_values.specs.declared.place.Place.{Place}

-- a place, as `line:col`
abbrev pub place_text : Place → List ℕ
place_text place = decimal place.line ++ (58 ∷ decimal place.col)

-- where something stands in the script
abbrev pub at_text : Place → List ℕ
at_text place = codes " at " ++ place_text place

-- words, and then a place
abbrev pub place_line : List ℕ → Place → List ℕ
place_line words place = words ++ (place_text place ++ (10 ∷ []))

-- a number between words
abbrev pub numbered : List ℕ → ℕ → List ℕ → List ℕ
numbered before n after = before ++ (decimal n ++ after)

-- two numbers among words
abbrev pub twice_numbered : List ℕ → ℕ → List ℕ → ℕ → List ℕ → List ℕ
twice_numbered before n between m after = before ++ (decimal n ++ (between ++ (decimal m ++ after)))

-- a name by its number, which is empty where there is none
abbrev pub name_at : List (List ℕ) → ℕ → List ℕ
name_at names number = slice_index_or names number []
