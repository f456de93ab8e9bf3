use Rattle.std.proofs.Common.{◌∙◌, ap, subst, sym}
use Rattle.sgl_values.specs.World.{row_at}
use Rattle.env_table.specs.Table.{Building, with_row_if}
use Rattle.tick_postprocess.specs.Rows.{bit, Grows}
use Rattle.tick_postprocess.proofs.RowSteps.{grown}
use Rattle.tick_postprocess.proofs.next_world.put_row.Goals as goal

pub returns-in-Ok-clause-grows : goal.returns-in-Ok-clause-grows
returns-in-Ok-clause-grows c =
    let old = c.args.out.now in
    let key = (row_at c.args.ending.now.tick.world.now.world c.args.row).key in
    let stays = c.in-Ok.fate.stays in
    let values = c.put_values.new.row in
    subst (λ (b : Building). Grows old b key (bit stays)) (sym (c.push_if.ensures ∙ ap (λ k. with_row_if stays old k values) c.key-key.ensures))
    (grown old key c.args.ending.now.tick.world.now.width values stays c.requires.push)
