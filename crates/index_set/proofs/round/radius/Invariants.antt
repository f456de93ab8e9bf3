use Rattle.std.proofs.Common.{◌≡◌, drop}
use Rattle.std.specs.List.{find}
use Rattle.battle_algebra.specs.Ways.{is_circle}
use Rattle.index_set.proofs.round.radius.Given as goal

abbrev pub invariant-loop-number : goal.invariant-loop-number
invariant-loop-number l = find is_circle (drop l.number l.tests) ≡ find is_circle l.tests
