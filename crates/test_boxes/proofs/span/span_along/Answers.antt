use Rattle.std.proofs.Common.{◌∙◌, ap, sym}
use Rattle.sgl_evaluate.specs.Frame.{context_of}
use Rattle.sgl_evaluate.specs.Rights.{right_of}
use Rattle.test_boxes.proofs.Steps.{span_more}
use Rattle.test_boxes.proofs.span.span_along.Goals as goal

pub loop-number-preserved : goal.loop-number-preserved
loop-number-preserved c =
    let test = c.index-tests-number.result in
    span_more c.args.axis (right_of (context_of c.args.frame.now)) c.args.tests.now c.loop-number.number test c.at.result c.loop-number.span c.narrowed-span.result
    c.loop-number-test.true c.index-tests-number.is (c.at.ensures test ∙ ap (right_of (context_of c.args.frame.now)) (sym c.index-tests-number.is)) c.loop-number.invariant c.narrowed-span.ensures
