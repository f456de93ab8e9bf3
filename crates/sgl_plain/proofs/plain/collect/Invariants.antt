use Rattle.std.proofs.Common.{◌≡◌, drop, pos, replicate, []}
use Rattle.std.specs.List.{flat_map}
use Rattle.sgl_values.specs.declared.fault.Val.TheVariants.{N}
use Rattle.sgl_typed.specs.Items.{unit_items}
use Rattle.sgl_plain.specs.Collected.{collected}
use Rattle.sgl_plain.specs.Leads.{Leads}
use Rattle.sgl_plain.proofs.plain.collect.Given as goal

abbrev pub invariant-loop-unit : goal.invariant-loop-unit
invariant-loop-unit l = record {
  slots : l.slots.values.items ≡ replicate l.tick.script.now.slots (N (pos 0));
  adds : Leads (collected l.limit []) l.out (flat_map (unit_items l.tick.script.now l.tick.world.now.world l.tick.seed) (drop l.unit l.tick.world.now.world.rows)) (flat_map (unit_items l.tick.script.now l.tick.world.now.world l.tick.seed) l.tick.world.now.world.rows);
}
