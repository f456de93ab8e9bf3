use Rattle.std.proofs.Common.{length, subst, sym}
use Rattle.test_boxes.specs.Forms.{ArePicked}
use Rattle.test_boxes.specs.Readings.{grouping}
use Rattle.test_boxes.proofs.asked.TestForms.key.Goals as goal

pub returns-in-Plain : goal.returns-in-Plain
returns-in-Plain c = λ args tests are. subst (λ how. ArePicked c.args.self.now.plain tests (length tests) (grouping how tests)) (sym c.in-Plain.is) are.plain
