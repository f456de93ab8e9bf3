use Rattle.std.proofs.Common.{◌≡◌}
use Rattle.structure_tests.proofs.tests.areas.points_are_answered_as_by_looking_at_each_box.Given as goal

abbrev pub invariant-loop-many : goal.invariant-loop-many
invariant-loop-many g l = record { points : l.work.points ≡ 400; boxes : l.work.boxes ≡ 300 }
