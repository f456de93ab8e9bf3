-- The rows of a strip.
use Rattle.std.specs.Prelude.{◌≡◌, ℕ, ◌+◌, ◌&&◌, nat_le, nat_lt, Bool, List, [], ◌∷◌, cond, length}
use Rattle.row_groups.specs.declared.strip.Strip.TheInside.{Inside}

-- the rank goes from the low one to before the end
abbrev pub is_held : ℕ → ℕ → ℕ → Bool
is_held low end rank = nat_le low rank && nat_lt rank end

-- of rows with their ranks, those with a rank from the low one to before the end
abbrev pub rows_held : ℕ → ℕ → List ℕ → List ℕ → List ℕ
rows_held low end [] ranks = []
rows_held low end (row ∷ rows) [] = []
rows_held low end (row ∷ rows) (rank ∷ ranks) = cond (is_held low end rank) (row ∷ rows_held low end rows ranks) (rows_held low end rows ranks)

-- the rows that are still to come
abbrev pub rest_of : Inside → List ℕ
rest_of strip = rows_held strip.low (strip.last + 1) strip.rows.now strip.ranks.now

-- each row has its rank
abbrev pub IsStrip : Inside → Type 0
IsStrip strip = length strip.ranks.now ≡ length strip.rows.now
