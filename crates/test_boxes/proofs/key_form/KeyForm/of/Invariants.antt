use Rattle.std.proofs.Common.{take}
use Rattle.test_boxes.specs.Forms.{ArePicked}
use Rattle.test_boxes.specs.Readings.{grouping}
use Rattle.test_boxes.proofs.key_form.KeyForm.of.Given as goal

abbrev pub invariant-loop-number : goal.invariant-loop-number
invariant-loop-number l = ArePicked l.form l.tests l.number (grouping l.how (take l.number l.tests))
