use Rattle.std.proofs.Common.{◌≡◌, ◌+◌, ◌*◌, ◌≤◌, ◌++◌, length, drop}
use Rattle.std.specs.Prelude.{decimal}
use Rattle.sgl_values.specs.World.{row_at}
use Rattle.unit_csv.specs.Lines.{values_text}
use Rattle.unit_csv.proofs.write.row_line.Given as goal

abbrev pub invariant-loop-attribute : goal.invariant-loop-attribute
invariant-loop-attribute l = record {
  text : l.line.items ++ values_text (drop l.attribute (row_at l.world.world l.row).values)
      ≡ decimal (row_at l.world.world l.row).key ++ values_text (row_at l.world.world l.row).values;
  short : length l.line.items ≤ 20 + 21 * l.attribute;
}
