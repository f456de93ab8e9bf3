use Rattle.std.proofs.Common.{◌≡◌}
use Rattle.engine_tests.specs.Towers.{ladder}
use Rattle.engine_tests.proofs.tests.towers.climbing.Given as goal

abbrev pub invariant-loop-level : goal.invariant-loop-level
invariant-loop-level l = l.routines ≡ ladder l.level
