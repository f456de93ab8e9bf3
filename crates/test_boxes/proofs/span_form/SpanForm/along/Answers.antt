use Rattle.std.proofs.Common.{◌+◌, ◌∙◌, ap, arith, subst, sym}
use Rattle.test_boxes.specs.declared.span_form.SpanForm.{SpanForm}
use Rattle.test_boxes.specs.Forms.{AreBelow, passes_form}
use Rattle.test_boxes.proofs.Steps.{below_weaker, form_longer, form_same}
use Rattle.test_boxes.proofs.span_form.SpanForm.along.Goals as goal
use Rattle.test_boxes.proofs.span_form.SpanForm.along.Goals.{in-Some, in-None}

pub loop-number-preserved : goal.loop-number-preserved
loop-number-preserved c =
    let axis = c.args.axis in
    let tests = c.args.tests.now in
    let i = c.loop-number.number in
    let form = c.loop-number.form in
    let before = c.loop-number.invariant in
    let test = c.index-tests-number.result in
    let inside = c.loop-number-test.true in
    let below = below_weaker form i (i + 1) (omega arith) before.below in
    elim c.match-op_along.branch [
      | in-Some w ↦ record {
        count = omega (arith, ap (λ (f : SpanForm). f.count) w.form-is, w.put.ensures.count, before.count);
        below = subst (λ (f : SpanForm). AreBelow f (i + 1)) (sym w.form-is) (w.put.ensures.below (i + 1) (omega arith) below);
        same = λ right d v.
            form_longer axis right tests v i test inside c.index-tests-number.is d w.in-Some.op (passes_form right tests d v form) (passes_form right tests d v c.match-op_along.form) w.in-Some.ensures
            (before.same right d v) (ap (passes_form right tests d v) w.form-is ∙ w.put.ensures.same right tests d v);
      }
      | in-None w ↦ record {
        count = omega (arith, ap (λ (f : SpanForm). f.count) w.form-is, before.count);
        below = subst (λ (f : SpanForm). AreBelow f (i + 1)) (sym w.form-is) below;
        same = λ right d v.
            ap (passes_form right tests d v) w.form-is
            ∙ form_same axis right tests v i test inside c.index-tests-number.is (passes_form right tests d v form) w.in-None.ensures (before.same right d v);
      }
    ]
