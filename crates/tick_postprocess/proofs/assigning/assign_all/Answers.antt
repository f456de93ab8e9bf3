use Rattle.std.proofs.Common.{◌≡◌, ◌<◌, ◌∙◌, None, ap, length, take, subst, sym, arith}
use Rattle.std.proofs.Math.ListN.{length-set}
use Rattle.std.proofs.lemmas.List.{get_or-replicate, length-take-le}
use Rattle.env_table.specs.Table.{numbers_in}
use Rattle.tick_postprocess.specs.Blocks.{lane_context, values_in, IsAssigned}
use Rattle.tick_postprocess.proofs.BlockSteps.{assigned_more}
use Rattle.tick_postprocess.proofs.assigning.assign_all.Goals as goal

pub loop-lane-preserved : goal.loop-lane-preserved
loop-lane-preserved c =
    let rows = c.args.rows.now in
    let inv = c.loop-lane.invariant in
    let lane = c.loop-lane.lane in
    let row = c.put_new-fault.new.new in
    let fault = c.put_new-fault.result in
    let new = c.put_lane.new.columns in
    let width = c.width-width.ensures.value in
    let long : length (take c.width-width.result row) ≡ c.width-width.result = length-take-le c.width-width.result row (omega (arith, c.put_new-fault.ensures.long, c.width-width.ensures.narrow)) in
    let here : take c.width-width.result row ≡ values_in rows.ending.now new lane =
    sym c.put_lane.ensures.here ∙ ap (λ n. take n (numbers_in new lane)) (long ∙ width) in
    record {
      long = length-set c.loop-lane.faults lane fault ∙ inv.long;
      assigned =
          assigned_more rows.ending.now rows.first lane rows.cells.now c.loop-lane.new new c.loop-lane.faults fault (omega (arith, inv.long, c.loop-lane-test.true, c.requires.few))
          inv.assigned c.put_lane.ensures.other
          (subst (λ vs. IsAssigned rows.ending.now.tick.script.now.rules (lane_context rows lane) vs fault) (ap (λ n. take n row) (sym width) ∙ here) c.put_new-fault.ensures.assigned);
    }

pub returns-then-are_numbers-clause-assigned : goal.returns-then-are_numbers-clause-assigned
returns-then-are_numbers-clause-assigned c lane below =
    let rows = c.args.rows.now in
    let lt : lane < c.args.count = omega (arith, below) in
    subst (IsAssigned rows.ending.now.tick.script.now.rules (lane_context rows lane) (values_in rows.ending.now c.put_plain.new.new lane))
    (sym (get_or-replicate 64 lane None None (omega (arith, lt, c.requires.few)))) (c.put_plain.ensures lane lt)

pub returns-then-are_numbers-clause-quiet : goal.returns-then-are_numbers-clause-quiet
returns-then-are_numbers-clause-quiet c clear lane below = get_or-replicate 64 lane None None (omega (arith, below, c.requires.few))
