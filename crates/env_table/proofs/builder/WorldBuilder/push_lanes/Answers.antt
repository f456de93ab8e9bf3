use Rattle.std.proofs.Common.{◌≡◌, ◌+◌, ◌-◌, ◌∙◌, ◌≤◌, length, ap, subst, sym, arith}
use Rattle.env_table.specs.Pushes.{CanPushLanes}
use Rattle.env_table.specs.Table.{with_lanes, with_run, Building}
use Rattle.env_table.proofs.LaneRows.{can_rest, lanes_run}
use Rattle.env_table.proofs.builder.WorldBuilder.push_lanes.Goals as goal

pub loop-lane-preserved-then-end-lane : goal.loop-lane-preserved-then-end-lane
loop-lane-preserved-then-end-lane c =
    let inv = c.loop-lane.invariant in
    let run = c.run_end-end.ensures in
    let lane = c.loop-lane.lane in
    let end = c.run_end-end.result in
    let world = c.args.world.now in
    let first = c.args.first in
    let columns = c.args.columns.now in
    let lanes = with_lanes c.args.self.now world.world first columns c.args.lanes in
    let last : lane + (end - lane) ≡ end = omega (arith, run.from) in
    let upto : end ≤ c.args.count = omega (arith, run.upto, c.min.ensures) in
    record {
      upto = upto;
      put =
          c.push_run.ensures
          ∙ ap (λ (b : Building). with_run b world.world first columns lane (end - lane)) inv.put
          ∙ sym (lanes_run c.args.self.now world.world first columns c.args.lanes lane (end - lane) (λ k from below. run.in_set k from (omega (arith, below, last))))
          ∙ ap lanes last;
      can =
          subst (λ (b : Building). CanPushLanes b world first end c.args.count (length columns)) (sym c.push_run.ensures)
          (can_rest c.loop-lane.self world first columns lane end c.args.count run.from upto c.len-few.ensures.table inv.can);
    }
