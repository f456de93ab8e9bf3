use Rattle.std.proofs.Common.{◌≡◌}
use Rattle.engine_tests.specs.Towers.{tower}
use Rattle.engine_tests.proofs.tests.towers.towering.Given as goal

abbrev pub invariant-loop-level : goal.invariant-loop-level
invariant-loop-level l = l.routines ≡ tower l.fn.first 10 l.level
