-- Numbers that digits write one after the other.
use Rattle.std.proofs.Common.{◌≡◌, ◌∙◌, ◌+◌, ◌*◌, ◌≤◌, ◌<◌, ℕ, List, [], ◌∷◌, None, refl, sym, ap, arith, drop, length, get_or, add-one, drop-cons}
use Rattle.std.proofs.lemmas.Bool.Decides.{nat_tests}
use Rattle.std.specs.Char.{digit_value}
use Rattle.std.specs.Str.Parse.{digits_value, digits_value_after}
use Rattle.sgl_values.specs.Digits.{within}

-- more digits make no lesser number
value_grows : (n : ℕ) (ds : List ℕ) → n ≤ digits_value_after 10 n ds
value_grows n [] = omega arith
value_grows n (d ∷ ds) = let more = value_grows (n * 10 + digit_value d) ds in omega (arith, more)

above : (most n : ℕ) → None ≡ within most n → most < n
above most n e = grind (arith, nat_tests)

none_above : (most n : ℕ) → most < n → None ≡ within most n
none_above most n high = grind (arith, nat_tests)

-- a number that is too great stays so with more digits
pub stays_above : (most n : ℕ) (ds : List ℕ) → None ≡ within most n → None ≡ within most (digits_value_after 10 n ds)
stays_above most n ds e =
    let high = above most n e in
    let more = value_grows n ds in
    none_above most (digits_value_after 10 n ds) (omega (arith, high, more))

-- a number that is too great behind some of its digits refuses the whole
pub too_great : (most value i : ℕ) (ds : List ℕ) → i < length ds → digits_value_after 10 value (drop i ds) ≡ digits_value_after 10 0 ds
    → None ≡ within most (value * 10 + digit_value (get_or ds i 0)) → None ≡ within most (digits_value 10 ds)
too_great most value i ds inside so_far refused =
    let step : digits_value_after 10 value (drop i ds) ≡ digits_value_after 10 (value * 10 + digit_value (get_or ds i 0)) (drop (i + 1) ds) =
    rw (add-one, drop-cons ds i 0) refl in
    stays_above most (value * 10 + digit_value (get_or ds i 0)) (drop (i + 1) ds) refused ∙ ap (within most) (sym step ∙ so_far)
