-- An operation on what its two sides hold.
use Rattle.std.proofs.Common.{pos}
use Rattle.sgl_values.specs.declared.fault.Val.TheVariants.{N}
use Rattle.sgl_lanes.proofs.Held.{operation-held}
use Rattle.sgl_lanes.proofs.evaluation.+lanes.Goals as goal

pub lanes_beside-returns-in-Some : goal.lanes_beside-returns-in-Some
lanes_beside-returns-in-Some g t c k below inside =
    operation-held _ _ (λ agg args. N (pos 0)) (g.C.LaneContexts.context c.args.contexts.now k) c.in-Binary.is c.get-left.ensures c.get-right.ensures
    (c.operate_beside.ensures c.in-Binary.place k below inside _ (c.in-Some.ensures k below inside))

pub lanes_beside-returns-in-Some-split_first_mut : goal.lanes_beside-returns-in-Some-split_first_mut
lanes_beside-returns-in-Some-split_first_mut g t c k below inside =
    operation-held _ _ (λ agg args. N (pos 0)) (g.C.LaneContexts.context c.args.contexts.now k) c.in-Binary.is c.get-left.ensures c.get-right.ensures
    (c.operate_beside-in-Some-split_first_mut.ensures c.in-Binary.place k below inside _ (c.lanes_beside-kind-in-Binary.ensures k below inside))

pub lanes_beside-returns-in-None : goal.lanes_beside-returns-in-None
lanes_beside-returns-in-None g t c k below inside =
    operation-held _ _ (λ agg args. N (pos 0)) (g.C.LaneContexts.context c.args.contexts.now k) c.in-Binary.is c.get-left.ensures c.get-right.ensures
    (c.operate_without_room.ensures c.in-Binary.place k below inside _ (c.lanes_beside-kind-in-Binary.ensures k below inside))

pub lanes_beside-returns-in-Some-standing : goal.lanes_beside-returns-in-Some-standing
lanes_beside-returns-in-Some-standing g t c k below inside =
    operation-held _ _ (λ agg args. N (pos 0)) (g.C.LaneContexts.context c.args.contexts.now k) c.in-Binary.is c.get-left.ensures c.get-right.ensures
    (c.operate_sides.ensures c.in-Binary.place k below inside _ _ (c.in-Some.ensures k below inside) (c.in-Some-standing.ensures k below inside))

pub lanes_beside-returns-in-Some-standing-2 : goal.lanes_beside-returns-in-Some-standing-2
lanes_beside-returns-in-Some-standing-2 g t c k below inside =
    operation-held _ _ (λ agg args. N (pos 0)) (g.C.LaneContexts.context c.args.contexts.now k) c.in-Binary.is c.get-left.ensures c.get-right.ensures
    (c.operate_sides-in-Some-standing-2.ensures c.in-Binary.place k below inside _ _ (c.lanes_beside-kind-in-Binary.ensures k below inside) (c.in-Some-standing-2.ensures k below inside))
