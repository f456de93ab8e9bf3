use Rattle.sgl_lanes.specs.Lanes.{EachLane}
use Rattle.tick_postprocess.specs.Blocks.{lane_context}
use Rattle.tick_postprocess.proofs.BlockSteps.{AreKnownTo}
use Rattle.tick_postprocess.proofs.values.read_right_sides.Given as goal

abbrev pub invariant-loop-at : goal.invariant-loop-at
invariant-loop-at l = EachLane l.mask (λ k. AreKnownTo l.at l.values k (lane_context l.rows k) l.rules)
