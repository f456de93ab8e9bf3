use Rattle.std.proofs.Common.{◌≡◌, drop}
use Rattle.std.specs.List.{find}
use Rattle.battle_algebra.specs.Ways.{is_circle}
use Rattle.index_set.proofs.round.centre.Given as goal

abbrev pub invariant-loop-test : goal.invariant-loop-test
invariant-loop-test l = find is_circle (drop l.test-index l.tests) ≡ find is_circle l.tests
