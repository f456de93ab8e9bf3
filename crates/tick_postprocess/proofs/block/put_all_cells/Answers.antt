use Rattle.std.proofs.Common.{◌-◌, drop, refl, ap, ◌∙◌, arith, ℕ}
use Rattle.sgl_typed.specs.Tick.{cell_fault, combined_from}
use Rattle.tick_postprocess.proofs.CellSteps.{clear_run}
use Rattle.tick_postprocess.proofs.block.put_all_cells.Goals as goal

pub returns-then-put_columns-clause-wide : goal.returns-then-put_columns-clause-wide
returns-then-put_columns-clause-wide c items words =
    let script = c.args.ending.now.tick.script.now in
    let rows = c.args.ending.now.tick.world.now.world.rows in
    let first = c.args.first in
    let count = c.args.end - first in
    clear_run script items rows first count (omega (arith, c.requires.order, c.requires.inside))
    (λ row from below. c.if-put_columns.ensures.clear refl items words row from (omega (arith, below, c.requires.order)))
    ∙ ap (λ (n : ℕ). cell_fault (drop n (combined_from script items 0 rows))) (omega (arith, c.requires.order))
