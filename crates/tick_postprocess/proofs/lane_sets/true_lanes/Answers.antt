use Rattle.std.proofs.Common.{◌∙◌, ap, arith, pos, ◌&&◌, ◌==◌}
use Rattle.std.specs.Ordering.{int_eq}
use Rattle.sgl_lanes.specs.Lanes.{lane_of}
use Rattle.sgl_lanes.proofs.LaneSets.{has_zero}
use Rattle.tick_postprocess.proofs.KnownLanes.{lane_more, lane_rest}
use Rattle.tick_postprocess.proofs.lane_sets.true_lanes.Goals as goal

pub loop-lane-init : goal.loop-lane-init
loop-lane-init c = record { done = λ k below. absurd (omega (arith, below)); rest = λ k from. has_zero k }

pub loop-lane-preserved : goal.loop-lane-preserved
loop-lane-preserved c =
    let inv = c.loop-lane.invariant in
    let lane = c.loop-lane.lane in
    let holds = λ (k : _). int_eq (lane_of c.args.numbers.now k) (pos 1) in
    record {
      done = lane_more c.loop-lane.lanes c.lane_if.result c.lanes_in_either-lanes.result lane holds c.lanes_in_either-lanes.ensures (λ k. c.lane_if.ensures k ∙ ap (λ b. b && k == lane) c.truth_at.ensures) inv.done inv.rest;
      rest = lane_rest c.loop-lane.lanes c.lane_if.result c.lanes_in_either-lanes.result lane c.truth_at.result c.lanes_in_either-lanes.ensures c.lane_if.ensures inv.rest;
    }
