-- Decimal numbers in text.
use Rattle.std.specs.Prelude.{ℕ, List, length, Option, None, Some, option_and_then, if◌then◌else◌, nat_le}
use Rattle.std.specs.Str.Parse.{digits_value}
use Rattle.sgl_values.specs.Digits.{is_digits, within}
use Rattle.battle_words.specs.declared.TheConstants.{DIGITS_MAX}

-- the number that digits write, where it is at most the greatest
abbrev pub digits_within : ℕ → List ℕ → Option ℕ
digits_within most digits = if is_digits digits then within most (digits_value 10 digits) else None

-- a number, where it is at least the least
abbrev pub at_least : ℕ → ℕ → Option ℕ
at_least least n = if nat_le least n then Some n else None

-- the number that 1 to 20 digits write, where it is from the least to the greatest
abbrev pub number_within : ℕ → ℕ → List ℕ → Option ℕ
number_within least most digits =
    if nat_le (length digits) DIGITS_MAX then option_and_then (at_least least) (digits_within most digits) else None

-- that number, or the default, if there is one, where nothing is written
abbrev pub number_or : Option ℕ → ℕ → ℕ → Option (List ℕ) → Option ℕ
number_or default least most None = default
number_or default least most (Some digits) = number_within least most digits
