use Rattle.std.proofs.Common.{◌≡◌, map, take}
use Rattle.extreme_sweep.specs.Windows.{least_inside}
use Rattle.extreme_sweep.proofs.sweep_windows.answers_of.Given as goal

abbrev pub invariant-loop-number : goal.invariant-loop-number
invariant-loop-number l = l.answers.items ≡ map (least_inside l.layout.ranked.items) (take l.number l.windows)
