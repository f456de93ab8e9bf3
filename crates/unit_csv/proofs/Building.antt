-- A world that is built of the entries of a map: no row is refused.
use Rattle.std.proofs.Common.{◌≡◌, ◌<◌, ℕ, ℤ, List, ◌∷◌, map, subst}
use Rattle.sgl_values.specs.World.{KeysRise}
use Rattle.unit_csv.specs.Kept.{row_of}
use Rattle.unit_csv.proofs.Entries.{Entry}

-- the key of an entry is above the last one, and those behind it are above that
pub rising_first : (last k : ℕ) (v : List ℤ) (s t : List Entry) → s ≡ (k, v) ∷ t → KeysRise last (map row_of s) → (last < k) × KeysRise k (map row_of t)
rising_first last k v s t split rising = subst (λ (es : List Entry). KeysRise last (map row_of es)) split rising
