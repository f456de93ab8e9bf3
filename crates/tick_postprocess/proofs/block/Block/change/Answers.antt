use Rattle.std.proofs.Common.{List, subst, arith}
use Rattle.std.specs.Prelude.{Option}
use Rattle.sgl_typed.specs.Tick.{removal_value}
use Rattle.sgl_typed.specs.declared.script.TExpr.{TExpr}
use Rattle.sgl_typed.specs.declared.script.TRule.{TRule}
use Rattle.sgl_lanes.specs.Lanes.{lane_of, Holds}
use Rattle.sgl_lanes.proofs.LaneSets.{first_has}
use Rattle.tick_postprocess.specs.Blocks.{context_after, context_in, AreKnown}
use Rattle.tick_postprocess.proofs.block.Block.change.Goals as goal

pub assign_all-self-requires-clause-known : goal.assign_all-self-requires-clause-known
assign_all-self-requires-clause-known c lane below =
    subst (λ (rules : List TRule). AreKnown c.read_right_sides.new.values lane (context_in c.args.ending.now c.args.self.now.first c.args.self.now.cells lane) rules) c.as_slice.ensures
    (c.read_right_sides.ensures.known lane (omega (arith, below, c.requires.few)) (first_has c.first_lanes-mask.result _ lane c.first_lanes-mask.ensures below))

pub returns-clause-block : goal.returns-clause-block
returns-clause-block c =
    let b = c.args.self.now in
    record {
      inside = c.requires.inside;
      few = c.requires.few;
      cells = c.requires.cells;
      assigned = λ lane below. c.assign_all-self.ensures.assigned lane (omega (arith, below));
      quiet = λ clear lane below. c.assign_all-self.ensures.quiet clear lane (omega (arith, below));
      spawning = λ lane below.
          subst (Holds c.read_condition.new.values.kind (lane_of c.read_condition.new.values.numbers lane)) (c.spawn_condition-spawn.ensures (context_after c.args.ending.now b.first b.cells c.assign_all-self.new.new lane))
          (c.read_condition.ensures lane (omega (arith, below, c.requires.few)) (first_has c.first_lanes-mask.result _ lane c.first_lanes-mask.ensures (omega (arith, below))));
      removal = λ lane below.
          subst (λ (removal : Option TExpr). Holds c.read_condition-2.new.values.kind (lane_of c.read_condition-2.new.values.numbers lane) (removal_value removal (context_after c.args.ending.now b.first b.cells c.assign_all-self.new.new lane))) c.as_ref.ensures.value
          (c.read_condition-2.ensures lane (omega (arith, below, c.requires.few)) (first_has c.first_lanes-mask.result _ lane c.first_lanes-mask.ensures (omega (arith, below))));
    }
