-- Numbers that decimal digits write.
use Rattle.std.specs.Prelude.{ℕ, ◌==◌, ◌&&◌, Bool, not, List, length, Option, None, Some, if◌then◌else◌, nat_le}
use Rattle.std.specs.Char.{is_ascii_digit}
use Rattle.std.specs.List.{list_all}

-- one or more decimal digits and nothing else
abbrev pub is_digits : List ℕ → Bool
is_digits bs = not (length bs == 0) && list_all is_ascii_digit bs

-- a number, where it is at most the greatest
abbrev pub within : ℕ → ℕ → Option ℕ
within most n = if nat_le n most then Some n else None
