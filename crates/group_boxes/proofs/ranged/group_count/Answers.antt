use Rattle.std.proofs.Common.{◌∙◌, ap}
use Rattle.range_aggregate.specs.Boxes.{count_of}
use Rattle.sgl_evaluate.specs.Frame.{context_of}
use Rattle.sgl_evaluate.specs.Rights.{right_of}
use Rattle.group_boxes.specs.Points.{points_under}
use Rattle.group_boxes.proofs.Answering.{read_count}
use Rattle.group_boxes.proofs.ranged.group_count.Goals as goal

pub returns : goal.returns
returns c =
    let part = c.args.part.now in
    let asked = c.args.asked in
    let world = c.args.asking.now.frame.now.tick.world.now in
    c.count.ensures
    ∙ ap (λ key. count_of asked.across.low asked.across.high asked.down.low asked.down.high (points_under part.groups.now part.boxes.now key)) c.asked_key-key.ensures
    ∙ read_count part c.args.how (right_of (context_of c.args.asking.now.frame.now)) c.args.tests.now world.world.rows world.width asked c.requires.how c.requires.asked.few c.requires.asked.boxed c.requires.asked.spans
    c.requires.part c.len.ensures.table.fits.rows_fit
