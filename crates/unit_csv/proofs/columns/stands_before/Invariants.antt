use Rattle.std.proofs.Common.{◌≡◌, drop, take}
use Rattle.csv.specs.Records.{fields_of}
use Rattle.unit_csv.specs.Fields.{trimmed_fields}
use Rattle.unit_csv.specs.Units.{stands_in}
use Rattle.unit_csv.proofs.columns.stands_before.Given as goal

abbrev pub invariant-loop-column : goal.invariant-loop-column
invariant-loop-column l =
    stands_in l.name (drop l.column (take l.count (trimmed_fields (fields_of l.header)))) ≡ stands_in l.name (take l.count (trimmed_fields (fields_of l.header)))
