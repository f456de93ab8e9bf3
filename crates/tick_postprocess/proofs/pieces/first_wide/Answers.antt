use Rattle.std.proofs.Common.{Some, None, length, drop, ap, sym}
use Rattle.sgl_typed.specs.Tick.{cell_fault, combined_from}
use Rattle.tick_postprocess.proofs.PieceSteps.{first_is, wide_end, wide_next}
use Rattle.tick_postprocess.proofs.pieces.first_wide.Goals as goal

pub loop-at-init : goal.loop-at-init
loop-at-init c script world combined seed done items words =
    let all = combined_from script items 0 world.world.rows in
    ap (λ n. cell_fault (drop n all)) (sym (first_is 0 (length world.world.rows) c.args.pieces.now done.joined))

pub returns-in-Some : goal.returns-in-Some
returns-in-Some c script world combined seed done items words =
    sym (wide_next script world combined seed c.args.pieces.now c.loop-at.at c.index-pieces-at.result (Some c.in-Some.fault) items done c.loop-at-test.true c.index-pieces-at.is c.in-Some.is words
    (c.loop-at.invariant script world combined seed done items words))

pub loop-at-preserved : goal.loop-at-preserved
loop-at-preserved c script world combined seed done items words =
    wide_next script world combined seed c.args.pieces.now c.loop-at.at c.index-pieces-at.result None items done c.loop-at-test.true c.index-pieces-at.is c.in_default.is words
    (c.loop-at.invariant script world combined seed done items words)

pub returns : goal.returns
returns c script world combined seed done items words =
    wide_end script world c.args.pieces.now c.loop-at.at items c.loop-at-test.false (c.loop-at.invariant script world combined seed done items words)
