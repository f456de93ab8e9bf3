use Rattle.std.proofs.Common.{◌≡◌}
use Rattle.engine_tests.specs.Towers.{calls_of}
use Rattle.engine_tests.proofs.tests.towers.calls.Given as goal

abbrev pub invariant-loop : goal.invariant-loop
invariant-loop l = l.list ≡ calls_of l.routine l.counter
