-- The numbers of unit tables.
use Rattle.std.specs.Prelude.{ℕ, ℤ, pos, neg_ℤ, ◌==◌, List, drop, slice_index, Option, None, Some, option_map, if◌then◌else◌}
use Rattle.std.specs.Str.Parse.{digits_value}
use Rattle.sgl_values.specs.Digits.{is_digits}
use Rattle.sgl_values.specs.Range.{in_range}
use Rattle.unit_csv.specs.declared.numbers.Number.{Number}
use Rattle.unit_csv.specs.declared.numbers.Number.TheVariants.{Malformed, OutOfRange, Value}

-- the number that digits alone write
abbrev pub unsigned_of : List ℕ → Option ℤ
unsigned_of digits = if is_digits digits then Some (pos (digits_value 10 digits)) else None

-- the number that a field writes: an optional `-` and one or more digits, however many
abbrev pub number_of : List ℕ → Option ℤ
number_of field = if slice_index field 0 == 45 then option_map neg_ℤ (unsigned_of (drop 1 field)) else unsigned_of field

-- what the code keeps of such a number
abbrev pub kept : Option ℤ → Number
kept None = Malformed
kept (Some z) = if in_range z then Value z else OutOfRange
