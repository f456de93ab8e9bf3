use Rattle.sgl_evaluate.specs.Forms.{AreSound}
use Rattle.sgl_evaluate.specs.Frame.{context_of}
use Rattle.sgl_evaluate.proofs.rights.Rights.fill_by.Goals.{Then-read}
use Rattle.sgl_evaluate.proofs.rights.Rights.fill_by.Goals as goal

sound : (c : Then-read) → AreSound (context_of c.args.frame.now) c.args.tests.now c.read.new.rights
sound c =
    let fit = c.requires.forms c.in-Some.forms c.in-Some.is in
    c.if-read.ensures.rights fit.args c.args.tests.now fit.are fit.literals

pub returns-then-read-clause-numbers : goal.returns-then-read-clause-numbers
returns-then-read-clause-numbers c = (sound c).rights_are

pub returns-then-read-clause-whole : goal.returns-then-read-clause-whole
returns-then-read-clause-whole c = (sound c).whole
