use Rattle.std.proofs.Common.{◌∙◌, arith, Option, subst}
use Rattle.sgl_evaluate.specs.Frame.{context_of}
use Rattle.test_boxes.proofs.Shapes.{boxed_no_circle}
use Rattle.test_boxes.proofs.TakenOff.{count_off, count_without}
use Rattle.group_boxes.specs.declared.ranged.GroupBoxes.{GroupBoxes}
use Rattle.group_boxes.specs.Ranged.{AreTurned}
use Rattle.group_boxes.proofs.ranged.count.Goals as goal

pub returns-in-None : goal.returns-in-None
returns-in-None c =
    let tests = c.args.tests.now in
    let rows = c.args.asking.now.frame.now.tick.world.now.world.rows in
    let P : Option GroupBoxes → Type 0 = λ o. AreTurned o tests rows in
    c.group_count-all.ensures ∙ count_without (context_of c.args.asking.now.frame.now) tests rows (boxed_no_circle tests c.requires.asked.boxed) (subst P c.in-None.is c.requires.ranged.turned)

pub returns-in-Some : goal.returns-in-Some
returns-in-Some c =
    let tests = c.args.tests.now in
    let rows = c.args.asking.now.frame.now.tick.world.now.world.rows in
    let P : Option GroupBoxes → Type 0 = λ o. AreTurned o tests rows in
    let off = count_off (context_of c.args.asking.now.frame.now) tests rows (boxed_no_circle tests c.requires.asked.boxed) (subst P c.in-Some.is c.requires.ranged.turned).0 in
    omega (arith, c.group_count-all.ensures, c.group_count.ensures, off)

pub overflow_sub-result : goal.overflow_sub-result
overflow_sub-result c =
    let tests = c.args.tests.now in
    let rows = c.args.asking.now.frame.now.tick.world.now.world.rows in
    let P : Option GroupBoxes → Type 0 = λ o. AreTurned o tests rows in
    let off = count_off (context_of c.args.asking.now.frame.now) tests rows (boxed_no_circle tests c.requires.asked.boxed) (subst P c.in-Some.is c.requires.ranged.turned).0 in
    omega (arith, c.group_count-all.ensures, c.group_count.ensures, off)
