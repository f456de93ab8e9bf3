use Rattle.std.proofs.Common.{◌≡◌, drop}
use Rattle.test_boxes.specs.Others.{other_of}
use Rattle.test_boxes.proofs.other.other_of.Given as goal

abbrev pub invariant-loop-test : goal.invariant-loop-test
invariant-loop-test l = other_of (drop l.test-index l.tests) ≡ other_of l.tests
