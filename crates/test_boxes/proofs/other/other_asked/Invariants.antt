use Rattle.std.proofs.Common.{◌≡◌, drop}
use Rattle.sgl_evaluate.specs.Frame.{context_of}
use Rattle.sgl_evaluate.specs.Rights.{right_of}
use Rattle.test_boxes.specs.Others.{other_asked}
use Rattle.test_boxes.proofs.other.other_asked.Given as goal

abbrev pub invariant-loop-number : goal.invariant-loop-number
invariant-loop-number l = other_asked (right_of (context_of l.frame)) (drop l.number l.tests) ≡ other_asked (right_of (context_of l.frame)) l.tests
