use Rattle.std.proofs.Common.{◌≡◌, ◌<◌, drop, take, map, get_or, pos, true, false}
use Rattle.std.specs.Prelude.{unsigned_abs}
use Rattle.csv.specs.Records.{fields_of}
use Rattle.unit_csv.specs.Fields.{trimmed_fields}
use Rattle.unit_csv.specs.Kept.{has_unit}
use Rattle.unit_csv.specs.Units.{field_faults, first_of, is_key, value_of}
use Rattle.unit_csv.proofs.record.numbers_of.Given as goal

abbrev pub invariant-loop-column : goal.invariant-loop-column
invariant-loop-column l = record {
  sound : first_of (field_faults l.key (has_unit l.units) l.record_number l.column (drop l.column (trimmed_fields (fields_of l.row))))
      ≡ first_of (field_faults l.key (has_unit l.units) l.record_number 0 (trimmed_fields (fields_of l.row)));
  numbers : l.numbers ≡ map value_of (take l.column (trimmed_fields (fields_of l.row)));
  is_key : l.key < l.column → is_key (get_or l.numbers l.key (pos 0)) ≡ true;
  fresh : l.key < l.column → has_unit l.units (unsigned_abs (get_or l.numbers l.key (pos 0))) ≡ false;
}
