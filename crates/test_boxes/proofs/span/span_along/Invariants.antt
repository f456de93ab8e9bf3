use Rattle.std.proofs.Common.{take}
use Rattle.sgl_evaluate.specs.Frame.{context_of}
use Rattle.sgl_evaluate.specs.Rights.{right_of}
use Rattle.test_boxes.specs.Ranges.{IsSpan}
use Rattle.test_boxes.proofs.span.span_along.Given as goal

abbrev pub invariant-loop-number : goal.invariant-loop-number
invariant-loop-number l = IsSpan l.span l.axis (right_of (context_of l.frame)) (take l.number l.tests)
