use Rattle.std.proofs.Common.{◌<◌, ◌≤◌, length, [], refl, sym, ◌∙◌, arith}
use Rattle.sgl_typed.specs.Items.{unit_items}
use Rattle.sgl_plain.proofs.Adding.{Leads-over, flat_map_end}
use Rattle.sgl_plain.proofs.StatementSteps.{units_more}
use Rattle.sgl_plain.proofs.plain.collect.Goals as goal

pub returns-then-is_over : goal.returns-then-is_over
returns-then-is_over c = (Leads-over (sym c.is_over.ensures ∙ c.if-is_over.true) c.loop-unit.invariant.adds).adds [] refl

pub loop-unit-preserved : goal.loop-unit-preserved
loop-unit-preserved c =
    let lt : c.loop-unit.unit < length c.args.tick.world.now.world.rows = omega (arith, c.loop-unit-test.true, c.len-unit-end.ensures.value) in
    record {
      slots = c.in_ok-act_as.ensures.slots ∙ c.loop-unit.invariant.slots;
      adds = units_more (unit_items c.args.tick.script.now c.args.tick.world.now.world c.args.tick.seed) c.args.tick.world.now.world c.loop-unit.unit lt c.loop-unit.invariant.adds c.in_ok-act_as.ensures.items;
    }

pub returns : goal.returns
returns c =
    let past : length c.args.tick.world.now.world.rows ≤ c.loop-unit.unit = omega arith in
    (flat_map_end (unit_items c.args.tick.script.now c.args.tick.world.now.world c.args.tick.seed) c.args.tick.world.now.world.rows c.loop-unit.unit past c.loop-unit.invariant.adds).adds [] refl
