use Rattle.std.proofs.Common.{length}
use Rattle.battle_algebra.specs.Ways.{x_of, y_of}
use Rattle.sgl_evaluate.specs.Frame.{context_of}
use Rattle.test_boxes.proofs.Steps.{below_weaker}
use Rattle.test_boxes.proofs.asked.asked_box.Goals as goal

pub returns-in-Some : goal.returns-in-Some
returns-in-Some c =
    let ctx = context_of c.args.asking.now.frame.now in
    let tests = c.args.tests.now in
    let fit = c.requires.forms c.in-Some.forms c.in-Some.is in
    record {
      across = c.span.ensures ctx tests (x_of tests) fit.are.across c.requires.rights;
      down = c.span-in-Some.ensures ctx tests (y_of tests) fit.are.down c.requires.rights;
    }

pub span-requires : goal.span-requires
span-requires c =
    let across = (c.requires.forms c.in-Some.forms c.in-Some.is).are.across in
    below_weaker c.in-Some.forms.now.across (length c.args.tests.now) 16 across.few across.below

pub span-requires-in-Some : goal.span-requires-in-Some
span-requires-in-Some c =
    let down = (c.requires.forms c.in-Some.forms c.in-Some.is).are.down in
    below_weaker c.in-Some.forms.now.down (length c.args.tests.now) 16 down.few down.below
