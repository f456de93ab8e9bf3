use Rattle.std.proofs.Common.{◌≡◌, ◌+◌, ◌-◌, [], ℕ, List, ℤ, length, map, pos, slice_index_or, take, ap, subst, sym, ◌∙◌, arith}
use Rattle.sgl_typed.specs.declared.schema.EffectAttr.{EffectAttr}
use Rattle.sgl_typed.specs.Tick.{cells_from}
use Rattle.sgl_lanes.specs.Lanes.{lane_of}
use Rattle.tick_postprocess.specs.Answer.{AreWords}
use Rattle.tick_postprocess.specs.Blocks.{IsPut}
use Rattle.tick_postprocess.proofs.CellSteps.{all_fit, cells-length, cells_are, fits}
use Rattle.tick_postprocess.proofs.block.put_columns.Goals as goal

pub returns-clause-cells : goal.returns-clause-cells
returns-clause-cells c lane below items words none =
    let e = c.args.ending.now in
    let effects = e.tick.script.now.schema.effects in
    let number = c.args.first + lane in
    let zs = cells_from items number 0 effects in
    let long : length zs ≡ length effects = cells-length items number 0 effects in
    let is = c.as_slice-effects.ensures in
    let said = subst (λ (es : List EffectAttr). AreWords es e.combined.now items) (sym is) words in
    let count : c.loop-attr.attr ≡ length effects = omega (arith, c.loop-attr-test.false, c.loop-attr.auto.attr-end, ap (λ (es : List EffectAttr). length es) is) in
    ap (λ n. take n (map (λ (list : List ℤ). lane_of list lane) c.loop-attr.cells)) (sym long)
    ∙ cells_are c.loop-attr.cells lane zs (omega (arith, long, c.requires.ending.narrow, c.loop-attr.invariant.full))
    (λ k lt.
    let put : IsPut (slice_index_or zs k (pos 0)) (lane_of (slice_index_or c.loop-attr.cells k []) lane) c.loop-attr.exact =
    subst (λ (es : List EffectAttr). IsPut (slice_index_or (cells_from items number 0 es) k (pos 0)) (lane_of (slice_index_or c.loop-attr.cells k []) lane) c.loop-attr.exact) is
    (c.loop-attr.invariant.put items said lane below k (omega (arith, lt, long, count))) in
    put.number_is (fits zs 0 k lt none))

pub returns-clause-clear : goal.returns-clause-clear
returns-clause-clear c exact items words row from below =
    let e = c.args.ending.now in
    let effects = e.tick.script.now.schema.effects in
    let lane = row - c.args.first in
    let at : c.args.first + lane ≡ row = omega (arith, from) in
    let zs = cells_from items row 0 effects in
    let long : length zs ≡ length effects = cells-length items row 0 effects in
    let is = c.as_slice-effects.ensures in
    let said = subst (λ (es : List EffectAttr). AreWords es e.combined.now items) (sym is) words in
    let count : c.loop-attr.attr ≡ length effects = omega (arith, c.loop-attr-test.false, c.loop-attr.auto.attr-end, ap (λ (es : List EffectAttr). length es) is) in
    all_fit zs 0
    (λ k lt.
    let put : IsPut (slice_index_or zs k (pos 0)) (lane_of (slice_index_or c.loop-attr.cells k []) lane) c.loop-attr.exact =
    subst (λ (n : ℕ). IsPut (slice_index_or (cells_from items n 0 effects) k (pos 0)) (lane_of (slice_index_or c.loop-attr.cells k []) lane) c.loop-attr.exact) at
    (subst (λ (es : List EffectAttr). IsPut (slice_index_or (cells_from items (c.args.first + lane) 0 es) k (pos 0)) (lane_of (slice_index_or c.loop-attr.cells k []) lane) c.loop-attr.exact) is
    (c.loop-attr.invariant.put items said lane (omega (arith, at, below)) k (omega (arith, lt, long, count)))) in
    put.fits exact)
