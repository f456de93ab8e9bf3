use Rattle.std.proofs.Common.{◌≡◌, ◌≤◌, ◌+◌, ◌++◌, map, length}
use Rattle.std.specs.Prelude.{All}
use Rattle.sgl_values.specs.World.{KeysRise}
use Rattle.unit_csv.specs.Kept.{row_of, rows_of}
use Rattle.unit_csv.specs.Units.{last_of}
use Rattle.unit_csv.proofs.read.world_of.Given as goal

abbrev pub invariant-loop-key : goal.invariant-loop-key
invariant-loop-key l = record {
  can_next : (goal.iterator-loop-key).can_next l.key-iterator;
  is_finite : (goal.iterator-loop-key).is_finite l.key-iterator;
  tick : l.builder.table.world.tick ≡ 0;
  width : l.builder.table.width ≡ l.width;
  rows : l.builder.table.world.rows ++ map row_of l.key-iterator ≡ rows_of l.units;
  room : length l.key-iterator ≤ l.builder.room;
  few : length l.builder.table.world.rows + length l.key-iterator ≤ 65536;
  last : l.builder.table.world.last_key ≡ l.last;
  ends : last_of l.last (map row_of l.key-iterator) ≡ last_of 0 (rows_of l.units);
  rising : KeysRise l.last (map row_of l.key-iterator);
  wide : All (λ entry. length entry.1 ≡ l.width) l.key-iterator;
}
