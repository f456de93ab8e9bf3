use Rattle.std.proofs.Common.{◌≡◌, map, take}
use Rattle.battle_algebra.specs.Ways.{attr_of}
use Rattle.test_boxes.specs.Readings.{grouping}
use Rattle.test_boxes.proofs.grouping.GroupingAttrs.of.Given as goal

abbrev pub invariant-loop-test : goal.invariant-loop-test
invariant-loop-test l = l.attrs ≡ map attr_of (grouping l.how (take l.test-index l.tests))
