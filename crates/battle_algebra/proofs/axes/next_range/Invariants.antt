use Rattle.std.proofs.Common.{◌≡◌, drop}
use Rattle.battle_algebra.specs.Ways.{next_range}
use Rattle.battle_algebra.proofs.axes.next_range.Given as goal

abbrev pub invariant-loop-test : goal.invariant-loop-test
invariant-loop-test l = next_range l.x (drop l.test-index l.tests) ≡ next_range l.x l.tests
