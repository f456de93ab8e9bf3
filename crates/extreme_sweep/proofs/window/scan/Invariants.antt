use Rattle.std.proofs.Common.{◌≡◌, take}
use Rattle.extreme_sweep.specs.Windows.{least_inside}
use Rattle.extreme_sweep.proofs.window.scan.Given as goal

abbrev pub invariant-loop-point : goal.invariant-loop-point
invariant-loop-point l = l.least ≡ least_inside (take l.point-index l.points) l.window
