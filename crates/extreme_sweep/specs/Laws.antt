-- Laws of the least pair of a list, and of a window.
use Rattle.std.specs.Prelude.{◌≡◌, List, [], Some, None, IsPermutation}
use Rattle.sgl_values.specs.Laws.{IsLeast}
use Rattle.sgl_values.specs.Least.{least_of}
use Rattle.extreme_sweep.specs.declared.pair.Pair.{Pair}
use Rattle.extreme_sweep.specs.declared.window.SweepPoint.{SweepPoint}
use Rattle.extreme_sweep.specs.declared.window.Window.{Window}
use Rattle.extreme_sweep.specs.Pairs.{pair_cmp}
use Rattle.extreme_sweep.specs.Windows.{least_inside}

-- the least pair is one of the list, and none is below it
abbrev pub LeastPairsAreLeast : Type 0
LeastPairsAreLeast = (pairs : List Pair) (least : Pair) → least_of pair_cmp pairs ≡ Some least → IsLeast pair_cmp pairs least

-- there is a least pair where there is one
abbrev pub NoLeastPairIsNone : Type 0
NoLeastPairIsNone = (pairs : List Pair) → least_of pair_cmp pairs ≡ None → pairs ≡ []

-- the points of a window may stand in any order
abbrev pub LeastInAnyOrder : Type 0
LeastInAnyOrder = (points others : List SweepPoint) (window : Window) → IsPermutation points others → least_inside others window ≡ least_inside points window
