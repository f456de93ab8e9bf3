use Rattle.std.proofs.Common.{◌≡◌, ◌≤◌, ℕ, [], drop, length, map, take}
use Rattle.std.specs.BTreeMap.{btree_map_len}
use Rattle.sgl_values.specs.World.{KeysRise}
use Rattle.unit_csv.specs.Kept.{AreWide, has_unit, rows_left, rows_of}
use Rattle.unit_csv.specs.Records.{IsReading}
use Rattle.unit_csv.specs.Units.{by_key, first_of, has_key, records_faults, unit_of}
use Rattle.unit_csv.proofs.read.read_rows.Given as goal

abbrev pub invariant-records : goal.invariant-records
invariant-records g l = record {
  reading : IsReading l.reader g.R.Read.remaining;
  few : l.count ≤ 65536;
  counted : length (take l.count (rows_left l.fn.reader g.R.Read.remaining)) ≡ l.count;
  left : drop l.count (rows_left l.fn.reader g.R.Read.remaining) ≡ rows_left l.reader g.R.Read.remaining;
  sound : first_of (records_faults l.columns.count l.columns.key (take l.count (rows_left l.fn.reader g.R.Read.remaining)) (rows_left l.reader g.R.Read.remaining))
      ≡ first_of (records_faults l.columns.count l.columns.key [] (rows_left l.fn.reader g.R.Read.remaining));
  rows : rows_of l.units ≡ by_key (map (unit_of l.columns.key l.columns.consts) (take l.count (rows_left l.fn.reader g.R.Read.remaining)));
  known : (k : ℕ) → has_key l.columns.key (take l.count (rows_left l.fn.reader g.R.Read.remaining)) k ≡ has_unit l.units k;
  wide : AreWide (length l.columns.consts) l.units;
  size : btree_map_len l.units ≡ l.count;
  rising : KeysRise 0 (rows_of l.units);
}

abbrev pub decreases-records : goal.decreases-records
decreases-records g l = length (rows_left l.reader g.R.Read.remaining)
