-- Points in windows.
use Rattle.std.specs.Prelude.{ℕ, Bool, ◌&&◌, ◌||◌, ◌-ℤ◌, unsigned_abs, int_lt, List, Option, None, map, filter, if◌then◌else◌}
use Rattle.sgl_values.specs.Range.{is_between}
use Rattle.extreme_sweep.specs.declared.pair.Pair.{Pair}
use Rattle.extreme_sweep.specs.declared.window.SweepPoint.{SweepPoint}
use Rattle.extreme_sweep.specs.declared.window.Window.{Window}
use Rattle.extreme_sweep.specs.Pairs.{least_other_than, pair_other_than}

-- whether a point is in a window
abbrev pub is_inside : Window → SweepPoint → Bool
is_inside window point = is_between window.x1 window.x2 point.x && is_between window.y1 window.y2 point.y

-- the least pair of the points in a window whose group is not the given one
abbrev pub least_inside : List SweepPoint → Window → Option Pair
least_inside points window = least_other_than window.other_than (map (λ point. point.entry) (filter (is_inside window) points))

-- whether no point can be in a window
abbrev pub is_reversed : Window → Bool
is_reversed window = int_lt window.x2 window.x1 || int_lt window.y2 window.y1

-- the pair of a point, where it is in a window and its group is not the given one
abbrev pub pair_inside : Window → SweepPoint → Option Pair
pair_inside window point = if is_inside window point then pair_other_than window.other_than point.entry else None

-- how far the right end of a window lies from the left one
abbrev pub width_of : Window → ℕ
width_of window = unsigned_abs (window.x1 -ℤ window.x2)
