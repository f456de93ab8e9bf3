-- The shift stays below the width of a word.
use Rattle.std.proofs.Common.{◌-◌, ◌≤◌}
use Rattle.rank_table.proofs.buckets.shift_for.Given as goal

abbrev pub invariant-loop-shift : goal.invariant-loop-shift
invariant-loop-shift l = l.shift ≤ 63

abbrev pub decreases-loop-shift : goal.decreases-loop-shift
decreases-loop-shift l = 63 - l.shift
