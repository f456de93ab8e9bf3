use Rattle.std.proofs.Common.{arith}
use Rattle.sgl_evaluate.specs.Frame.{context_of}
use Rattle.test_boxes.proofs.key.asked_key.Goals as goal

pub key-requires-in-Some : goal.key-requires-in-Some
key-requires-in-Some c = λ i d inside.
    let fit = c.requires.forms c.in-Some.forms c.in-Some.is in
    let form = c.key.ensures fit.args c.args.tests.now fit.are in
    omega (arith, fit.are.across.few, form.below i d inside)

pub returns-in-Some : goal.returns-in-Some
returns-in-Some c =
    let fit = c.requires.forms c.in-Some.forms c.in-Some.is in
    c.key-in-Some.ensures (context_of c.args.asking.now.frame.now) c.args.tests.now c.args.how (c.key.ensures fit.args c.args.tests.now fit.are) c.requires.rights
