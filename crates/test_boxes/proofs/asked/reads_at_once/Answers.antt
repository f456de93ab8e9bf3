use Rattle.test_boxes.proofs.asked.reads_at_once.Goals as goal

pub returns-in-Some-clause-rights : goal.returns-in-Some-clause-rights
returns-in-Some-clause-rights c = λ tests told.
    let fit = told c.in-Some.forms c.in-Some.is in
    c.read.ensures.rights fit.args tests fit.are.rights fit.literals
