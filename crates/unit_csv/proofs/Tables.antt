-- The column of keys under a header without faults.
use Rattle.std.proofs.Common.{◌≡◌, ◌<◌, ℕ, suc, List, [], ◌∷◌, ◌++◌, length, Bool, true, false, ◌||◌, None, Some, refl, arith}
use Rattle.std.specs.Prelude.{if◌then◌else◌}
use Rattle.std.specs.Str.{bytes_eq}
use Rattle.unit_csv.specs.declared.faults.UnitFault.{UnitFault}
use Rattle.unit_csv.specs.declared.faults.UnitFault.TheVariants.{MissingColumn}
use Rattle.unit_csv.specs.Units.{column_faults, first_of, header_faults, key_name, missing_faults, names_of, place_of, stands_in, told}

none_behind : (xs ys : List UnitFault) → first_of (xs ++ ys) ≡ None → first_of ys ≡ None
none_behind [] ys e = e
none_behind (x ∷ xs) ys e = absurd (cc e)

stands_if : (b : Bool) (fault : UnitFault) (faults : List UnitFault) → first_of (told (if b then None else Some fault) faults) ≡ None → b ≡ true
stands_if true fault faults e = refl
stands_if false fault faults e = absurd (cc e)

place_inside : (b : Bool) (place size : ℕ) (rest : Bool) → (rest ≡ true → place < size) → (b || rest) ≡ true → (if b then 0 else suc place) < suc size
place_inside true place size rest inside e = omega arith
place_inside false place size rest inside e = let less = inside e in omega (arith, less)

stands_inside : (header : List (List ℕ)) (name : List ℕ) → stands_in name header ≡ true → place_of header name < length header
stands_inside [] name e = absurd (cc e)
stands_inside (other ∷ header) name e =
    place_inside (bytes_eq other name) (place_of header name) (length header) (stands_in name header) (stands_inside header name) e

-- a header without faults has a column of keys
pub key_inside : (consts header : List (List ℕ)) → first_of (header_faults (names_of consts) header) ≡ None → place_of header key_name < length header
key_inside consts header sound =
    stands_inside header key_name
    (stands_if (stands_in key_name header) (MissingColumn 0) (missing_faults header 1 consts)
    (none_behind (column_faults (names_of consts) [] header) (missing_faults header 0 (names_of consts)) sound))
