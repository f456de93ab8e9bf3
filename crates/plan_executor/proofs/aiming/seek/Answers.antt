use Rattle.std.proofs.Common.{ap, subst, sym, ◌∙◌, ◌<◌, length}
use Rattle.sgl_typed.specs.Aggregate.{simple_value}
use Rattle.sgl_typed.specs.Value.{Context}
use Rattle.sgl_values.specs.World.{row_at}
use Rattle.sgl_lanes.specs.Lanes.{lane_of, Holds}
use Rattle.sgl_lanes.specs.declared.kind.Lanes.{Lanes}
use Rattle.plan_executor.specs.Clauses.{target_of, with_args}
use Rattle.plan_executor.specs.Running.{base_of}
use Rattle.plan_executor.proofs.aiming.seek.Goals as goal

pub evaluate-requires : goal.evaluate-requires
evaluate-requires c = λ k below own.
    let inside = c.requires.inside.is k own in
    record {
      below = below;
      row = inside;
      target = subst (λ n. n < length c.args.run.now.tick.world.now.world.rows) (sym (c.requires.own k below inside)) inside;
      held = c.requires.held k own;
    }

pub returns-in-Numbers : goal.returns-in-Numbers
returns-in-Numbers c = λ yes. record {
  part = c.aim_rows.ensures.part;
  key = λ k. lane_of c.evaluate.new.self.numbers k;
  asked = λ k own.
      let inside = c.requires.inside.is k own in
      let below = c.requires.inside.below k own in
      let frame : Context = with_args (base_of c.args.run.now) c.args.args.now k in
      sym (ap (λ n. simple_value (record frame { target = row_at c.args.run.now.tick.world.now.world n }) c.args.right.now) (c.requires.own k below inside))
      ∙ subst (λ (kind : Lanes). Holds kind (lane_of c.evaluate.new.self.numbers k) (simple_value (record frame { target = row_at c.args.run.now.tick.world.now.world (target_of c.args.aims.now.targets k) }) c.args.right.now))
      c.in-Numbers.is (c.evaluate.ensures k below own);
  found = c.aim_rows.ensures.aims;
}
