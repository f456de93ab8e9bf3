use Rattle.std.proofs.Common.{◌<◌, length, subst, sym, arith}
use Rattle.sgl_typed.specs.Aggregate.{simple_value}
use Rattle.sgl_typed.specs.declared.script.TRule.{TRule}
use Rattle.sgl_lanes.specs.Lanes.{lane_of, Holds}
use Rattle.tick_postprocess.specs.Blocks.{lane_context}
use Rattle.tick_postprocess.proofs.BlockSteps.{known_more}
use Rattle.tick_postprocess.proofs.values.read_right_sides.Goals as goal

pub loop-at-preserved : goal.loop-at-preserved
loop-at-preserved c k below is =
    let rows = c.args.rows.now in
    let new = c.evaluate.new.self in
    let inside : c.loop-at.at < length c.loop-at.values = omega (arith, c.loop-at-test.true, c.min-at-end.ensures, c.loop-at.auto.values) in
    known_more c.loop-at.at k c.loop-at.values new (lane_context rows k) c.args.rules.now c.index-rules-at.result inside c.index-rules-at.is (c.loop-at.invariant k below is)
    (subst (λ (r : TRule). Holds new.kind (lane_of new.numbers k) (simple_value (lane_context rows k) r.value)) (sym c.index-rules-at.is) (c.evaluate.ensures k below is))

pub returns-clause-known : goal.returns-clause-known
returns-clause-known c k below is at known rule inside within that =
    c.loop-at.invariant k below is at known rule (omega (arith, inside, within, c.loop-at-test.false, c.min-at-end.ensures, c.loop-at.auto.values)) within that
