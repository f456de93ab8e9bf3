use Rattle.std.proofs.Common.{subst}
use Rattle.std.proofs.lemmas.Option.{same_Some}
use Rattle.sgl_evaluate.specs.Forms.{FitSlots}
use Rattle.test_boxes.proofs.asked.read_rights.Goals as goal

pub fill_by-requires-in-Some-clause-forms : goal.fill_by-requires-in-Some-clause-forms
fill_by-requires-in-Some-clause-forms c = λ forms is.
    let fit = c.requires.forms c.in-Some.forms c.in-Some.is in
    subst (λ told. FitSlots told.now c.args.frame.now.slots.now c.args.tests.now) (same_Some _ forms is)
    (record { args = fit.args; are = fit.are.rights; literals = fit.literals })
