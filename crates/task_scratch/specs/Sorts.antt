-- The sort of the values of the rows of a set.
use Rattle.std.specs.Prelude.{ℕ, ◌||◌, not, Bool, true, false, if◌then◌else◌}
use Rattle.std.specs.List.{list_all, range_with_len}
use Rattle.sgl_values.specs.declared.fault.Val.{Val}
use Rattle.sgl_values.specs.declared.fault.Val.TheVariants.{N, B, F}
use Rattle.sgl_lanes.specs.Lanes.{has}
use Rattle.sgl_lanes.specs.declared.kind.Lanes.{Lanes}
use Rattle.sgl_lanes.specs.declared.kind.Lanes.TheVariants.{Numbers, Truths, Unknown}

abbrev pub is_number : Val → Bool
is_number (N z) = true
is_number (B truth) = false
is_number (F fault) = false

abbrev pub is_truth : Val → Bool
is_truth (N z) = false
is_truth (B truth) = true
is_truth (F fault) = false

-- each of the 64 rows that is one of the set passes a test
unfoldable pub all_pass : ℕ → (ℕ → Bool) → Bool
all_pass mask test = list_all (λ row. not (has mask row) || test row) (range_with_len 0 64)

-- All values of the rows of a set are numbers, or all are truths; else a fault is among them, or they are of both sorts. The
-- values of no row are numbers.
abbrev pub sort_of : ℕ → (ℕ → Val) → Lanes
sort_of mask value =
    if all_pass mask (λ row. is_number (value row)) then Numbers
    else if all_pass mask (λ row. is_truth (value row)) then Truths
    else Unknown
