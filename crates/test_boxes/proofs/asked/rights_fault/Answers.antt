use Rattle.test_boxes.proofs.asked.rights_fault.Goals as goal

pub returns-then-reads_at_once-clause-numbers : goal.returns-then-reads_at_once-clause-numbers
returns-then-reads_at_once-clause-numbers c = (c.if-reads_at_once.ensures.rights c.args.tests.now c.requires.forms).rights_are

pub returns-then-reads_at_once-clause-whole : goal.returns-then-reads_at_once-clause-whole
returns-then-reads_at_once-clause-whole c = (c.if-reads_at_once.ensures.rights c.args.tests.now c.requires.forms).whole
