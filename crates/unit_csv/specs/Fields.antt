-- The fields of a record, without the blanks at their ends.
use Rattle.std.specs.Prelude.{ℕ, ◌==◌, ◌||◌, Bool, List, [], ◌∷◌, map, reverse, if◌then◌else◌}

-- a space or a tab
abbrev pub is_blank : ℕ → Bool
is_blank byte = (byte == 32) || (byte == 9)

-- a text without the blanks at its start
abbrev pub past_blanks : List ℕ → List ℕ
past_blanks [] = []
past_blanks (byte ∷ rest) = if is_blank byte then past_blanks rest else byte ∷ rest

-- a text without the blanks at both its ends
abbrev pub trimmed : List ℕ → List ℕ
trimmed text = reverse (past_blanks (reverse (past_blanks text)))

-- the fields of a record, each without the blanks at its ends
abbrev pub trimmed_fields : List (List ℕ) → List (List ℕ)
trimmed_fields fields = map trimmed fields
