-- The numbers of a record, and its unit.
use Rattle.std.proofs.Common.{◌≡◌, ◌∙◌, ℕ, ℤ, pos, List, [], ◌∷◌, map, get_or, refl, ap, ap₂}
use Rattle.std.specs.Prelude.{unsigned_abs}
use Rattle.std.proofs.Math.ListN.{get_or-map}
use Rattle.unit_csv.specs.Units.{unit_of, value_at, value_of}

-- the number in a column
pub number_is : (fields : List (List ℕ)) (numbers : List ℤ) (place : ℕ) → numbers ≡ map value_of fields → get_or numbers place (pos 0) ≡ value_at fields place
number_is fields numbers place same = ap (λ zs. get_or zs place (pos 0)) same ∙ get_or-map value_of fields place []

values_are : (fields : List (List ℕ)) (numbers : List ℤ) (places : List ℕ) → numbers ≡ map value_of fields
    → map (λ place. get_or numbers place (pos 0)) places ≡ map (value_at fields) places
values_are fields numbers [] same = refl
values_are fields numbers (place ∷ places) same = ap₂ (λ (z : ℤ) (zs : List ℤ). z ∷ zs) (number_is fields numbers place same) (values_are fields numbers places same)

-- a key and values from the columns are the unit of the record
pub unit_is : (fields : List (List ℕ)) (numbers values : List ℤ) (key k : ℕ) (places : List ℕ) → numbers ≡ map value_of fields
    → k ≡ unsigned_abs (get_or numbers key (pos 0)) → values ≡ map (λ place. get_or numbers place (pos 0)) places
    → record { key = k; values = values } ≡ unit_of key places fields
unit_is fields numbers values key k places same key_is values_is =
    ap₂ (λ (n : ℕ) (zs : List ℤ). record { key = n; values = zs }) (key_is ∙ ap unsigned_abs (number_is fields numbers key same)) (values_is ∙ values_are fields numbers places same)
