-- Those with the key of the unequal test are taken off those that pass without it.
use Rattle.std.proofs.Common.{◌≡◌, ◌∙◌, arith, map, ap, sym}
use Rattle.sgl_evaluate.specs.Frame.{context_of}
use Rattle.sgl_evaluate.specs.Rights.{right_of}
use Rattle.test_boxes.specs.declared.reading.Reading.TheVariants.{Away, Alike}
use Rattle.test_boxes.specs.Readings.{grouping, passes_read}
use Rattle.test_boxes.proofs.Shapes.{boxed_no_circle}
use Rattle.test_boxes.proofs.TakenOff.{count_off}
use Rattle.row_groups.specs.Groups.{number_of}
use Rattle.row_groups.specs.Keys.{four_of}
use Rattle.group_boxes.proofs.Apart.{all_in, filter_few, others_in}
use Rattle.group_boxes.proofs.others.count_others.Goals as goal

pub count_but-requires : goal.count_but-requires
count_but-requires c =
    let world = c.args.asking.now.frame.now.tick.world.now in
    let right = right_of (context_of c.args.asking.now.frame.now) in
    let tests = c.args.tests.now in
    let all = all_in c.args.part.now right tests world.world.rows world.width c.args.asked c.requires.asked.few c.requires.asked.boxed c.requires.asked.spans c.requires.part
    c.len.ensures.table.fits.rows_fit in
    omega (arith, all, filter_few (passes_read Away right tests) world.world.rows, c.len.ensures.value, c.len.ensures.few)

pub returns : goal.returns
returns c =
    let world = c.args.asking.now.frame.now.tick.world.now in
    let part = c.args.part.now in
    let context = context_of c.args.asking.now.frame.now in
    let right = right_of context in
    let tests = c.args.tests.now in
    let there : number_of part.groups.now (four_of (map right (grouping Alike tests))) ≡ c.number-own.result = ap (number_of part.groups.now) (sym c.asked_key-key.ensures) ∙ sym c.number-own.ensures.value in
    let others = others_in part right tests world.world.rows world.width c.args.asked c.requires.asked.few c.requires.asked.boxed c.requires.asked.spans c.requires.part
    c.len.ensures.table.fits.rows_fit c.number-own.result there in
    omega (arith, c.count_but.ensures, others, count_off context tests world.world.rows (boxed_no_circle tests c.requires.asked.boxed) c.requires.part.one)
