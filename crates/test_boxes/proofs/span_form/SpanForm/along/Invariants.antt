use Rattle.std.proofs.Common.{◌≡◌, ◌≤◌, ℤ, take}
use Rattle.sgl_typed.specs.declared.script.TTest.{TTest}
use Rattle.test_boxes.specs.Forms.{AreBelow, passes_form}
use Rattle.test_boxes.specs.Ranges.{passes_along}
use Rattle.test_boxes.proofs.span_form.SpanForm.along.Given as goal

abbrev pub invariant-loop-number : goal.invariant-loop-number
invariant-loop-number l = record {
  count : l.form.count ≤ l.number;
  below : AreBelow l.form l.number;
  same : (right : TTest → ℤ) (d : TTest) (v : ℤ) → passes_form right l.tests d v l.form ≡ passes_along l.axis right (take l.number l.tests) v;
}
