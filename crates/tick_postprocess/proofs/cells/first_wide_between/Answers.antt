use Rattle.std.proofs.Common.{◌≡◌, ◌<◌, length, drop, List, Some, None, ap, subst, sym, ◌∙◌, arith}
use Rattle.sgl_typed.specs.declared.schema.EffectAttr.{EffectAttr}
use Rattle.sgl_typed.specs.Tick.{cell_fault, cells_from, combined_from, wide_cell}
use Rattle.tick_postprocess.specs.Answer.{AreWords}
use Rattle.tick_postprocess.proofs.CellSteps.{fault_here, fault_later}
use Rattle.tick_postprocess.proofs.cells.first_wide_between.Goals as goal

pub returns-in-Some-clause-told : goal.returns-in-Some-clause-told
returns-in-Some-clause-told c items words =
    let rows = c.args.ending.now.tick.world.now.world.rows in
    let lt : c.loop-row.row < length rows = omega (arith, c.loop-row-test.true, c.requires.run.inside) in
    let found : Some c.in-Some.attr ≡ wide_cell 0 (cells_from items c.loop-row.row 0 c.args.ending.now.tick.script.now.schema.effects) =
    sym c.in-Some.is
    ∙ c.wide_attr.ensures items (subst (λ (es : List EffectAttr). AreWords es c.args.ending.now.combined.now items) (sym c.as_slice-effects.ensures) words)
    ∙ ap (λ (es : List EffectAttr). wide_cell 0 (cells_from items c.loop-row.row 0 es)) c.as_slice-effects.ensures in
    fault_here c.args.ending.now.tick.script.now items rows c.loop-row.row c.key-key.result c.in-Some.attr (cell_fault (drop c.args.first (combined_from c.args.ending.now.tick.script.now items 0 rows))) lt c.key-key.ensures found
    (c.loop-row.invariant items words)

pub loop-row-preserved : goal.loop-row-preserved
loop-row-preserved c items words =
    let rows = c.args.ending.now.tick.world.now.world.rows in
    let lt : c.loop-row.row < length rows = omega (arith, c.loop-row-test.true, c.requires.run.inside) in
    let found : None ≡ wide_cell 0 (cells_from items c.loop-row.row 0 c.args.ending.now.tick.script.now.schema.effects) =
    sym c.in_default.is
    ∙ c.wide_attr.ensures items (subst (λ (es : List EffectAttr). AreWords es c.args.ending.now.combined.now items) (sym c.as_slice-effects.ensures) words)
    ∙ ap (λ (es : List EffectAttr). wide_cell 0 (cells_from items c.loop-row.row 0 es)) c.as_slice-effects.ensures in
    fault_later c.args.ending.now.tick.script.now items rows c.loop-row.row (cell_fault (drop c.args.first (combined_from c.args.ending.now.tick.script.now items 0 rows))) lt found (c.loop-row.invariant items words)

pub returns-clause-told : goal.returns-clause-told
returns-clause-told c items words =
    let all = combined_from c.args.ending.now.tick.script.now items 0 c.args.ending.now.tick.world.now.world.rows in
    let at : c.loop-row.row ≡ c.args.end = omega (arith, c.loop-row-test.false, c.loop-row.auto.row-end, c.requires.run.order) in
    c.loop-row.invariant items words ∙ ap (λ n. cell_fault (drop n all)) at
