use Rattle.std.proofs.Common.{◌≤◌, length, sym, ◌∙◌, arith}
use Rattle.std.proofs.lemmas.List.{at_drop_all}
use Rattle.sgl_typed.specs.Tick.{cells_from, wide_cell}
use Rattle.tick_postprocess.proofs.CellSteps.{cells-length}
use Rattle.tick_postprocess.proofs.cells.wide_attr.Goals as goal

pub returns : goal.returns
returns c items words =
    let zs = cells_from items c.args.row 0 c.args.effects.now in
    let past : length zs ≤ c.loop-attr.attr = omega (arith, cells-length items c.args.row 0 c.args.effects.now) in
    sym (c.loop-attr.invariant items words ∙ at_drop_all (wide_cell c.loop-attr.attr) zs c.loop-attr.attr past)
