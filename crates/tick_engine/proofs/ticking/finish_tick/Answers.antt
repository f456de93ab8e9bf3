use Rattle.std.proofs.Common.{◌≤◌, length, arith}
use Rattle.tick_engine.proofs.PlanItems.{are_items}
use Rattle.tick_engine.proofs.Reaching.{reached_in}
use Rattle.tick_engine.proofs.ticking.finish_tick.Goals as goal

pub end_tick-requires-clause-told : goal.end_tick-requires-clause-told
end_tick-requires-clause-told g c κs within = record {
  plan = c.args.run.now.plan.now;
  are = are_items c.args.run.now.tick.script.now c.args.run.now.plan.now c.args.run.now.tick.world.now.world c.args.run.now.tick.seed c.args.run.now.limit c.requires.gives;
  totals = c.finish_all-summary.ensures.totals;
}

pub returns-in-Ok-clause-reach : goal.returns-in-Ok-clause-reach
returns-in-Ok-clause-reach g c =
    let value = c.len-few.ensures.value in
    let most = c.len-few.ensures.few in
    let few : length c.args.run.now.tick.world.now.world.rows ≤ 65536 = omega (arith, value, most) in
    reached_in c.args.run.now.tick.script.now c.args.run.now.plan.now c.args.run.now.tick.world.now.world c.args.run.now.tick.seed c.args.run.now.limit c.finish_all-summary.result.0 c.finish_all-summary.result.2.items few c.in-Ok.ensures.within c.finish_all-summary.ensures.reaches
