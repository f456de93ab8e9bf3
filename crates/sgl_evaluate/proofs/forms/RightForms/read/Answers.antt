use Rattle.std.proofs.Common.{arith}
use Rattle.sgl_evaluate.specs.Frame.{context_of}
use Rattle.sgl_evaluate.proofs.Forming.{AreSound-told}
use Rattle.sgl_evaluate.proofs.forms.RightForms.read.Goals as goal

pub returns-clause-rights : goal.returns-clause-rights
returns-clause-rights c = λ args tests are literals.
    AreSound-told (context_of c.args.frame.now) args tests c.args.self.now c.loop-number.rights are literals c.loop-number.invariant.size
    (λ i d e inside. c.loop-number.invariant.each i d e (omega (arith, inside, are.all, are.few, c.loop-number-test.false, c.min-number-end.ensures)))
