use Rattle.std.proofs.Common.{◌∙◌, ℤ, List, length, map, sym, arith}
use Rattle.std.proofs.lemmas.List.{length-map, take_all}
use Rattle.sgl_lanes.specs.Lanes.{lane_of}
use Rattle.tick_postprocess.proofs.CellSteps.{cells_are}
use Rattle.tick_postprocess.proofs.row_lanes.cells_of.Goals as goal

pub returns : goal.returns
returns c =
    let inv = c.loop-effect.invariant in
    let row = c.loop-effect.row in
    let lists = c.args.cells.now in
    let cell = λ (list : List ℤ). lane_of list c.args.lane in
    sym (cells_are lists c.args.lane row (omega (arith, inv.full, inv.lists)) (λ k lt. sym (inv.same k (omega (arith, lt, inv.full, c.loop-effect-test.false, c.loop-effect.auto.effect-end)))))
    ∙ take_all (length row) (map cell lists) (omega (arith, length-map lists cell, inv.full, inv.lists))
