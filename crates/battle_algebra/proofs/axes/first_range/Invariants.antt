use Rattle.std.proofs.Common.{◌≡◌, drop}
use Rattle.battle_algebra.specs.Ways.{first_range}
use Rattle.battle_algebra.proofs.axes.first_range.Given as goal

abbrev pub invariant-loop-test : goal.invariant-loop-test
invariant-loop-test l = first_range (drop l.test-index l.tests) ≡ first_range l.tests
