use Rattle.std.proofs.Common.{take, map}
use Rattle.sgl_evaluate.specs.Frame.{context_of}
use Rattle.sgl_evaluate.specs.Rights.{right_of}
use Rattle.test_boxes.specs.Keys.{AreValues}
use Rattle.test_boxes.specs.Readings.{grouping}
use Rattle.test_boxes.proofs.key.key_of.Given as goal

abbrev pub invariant-loop-number : goal.invariant-loop-number
invariant-loop-number l = AreValues l.values (map (right_of (context_of l.frame)) (grouping l.how (take l.number l.tests)))
