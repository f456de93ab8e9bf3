use Rattle.std.proofs.Common.{◌∙◌, ap, sym, take, arith}
use Rattle.env_table.specs.Table.{numbers_in}
use Rattle.tick_postprocess.proofs.CellSteps.{cells_are}
use Rattle.tick_postprocess.proofs.block.Block.put_values.Goals as goal

pub returns : goal.returns
returns c =
    let inv = c.loop-attr.invariant in
    let width = c.width-width.ensures in
    let columns = c.args.self.now.changed in
    sym (
    ap (λ n. take n (numbers_in columns c.args.lane)) (sym (inv.full ∙ c.requires.row))
    ∙ cells_are columns c.args.lane c.loop-attr.row (omega (arith, inv.full, inv.lists, c.requires.row, width.value, width.narrow))
    (λ k lt. sym (inv.put k (omega (arith, lt, inv.full, c.requires.row, width.value, c.loop-attr-test.false))))
    )
