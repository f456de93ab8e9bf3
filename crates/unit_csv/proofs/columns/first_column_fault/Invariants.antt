use Rattle.std.proofs.Common.{◌≡◌, [], drop, take}
use Rattle.csv.specs.Records.{fields_of}
use Rattle.unit_csv.specs.Fields.{trimmed_fields}
use Rattle.unit_csv.specs.Units.{column_faults, first_of, names_of}
use Rattle.unit_csv.proofs.columns.first_column_fault.Given as goal

abbrev pub invariant-loop-column : goal.invariant-loop-column
invariant-loop-column l =
    first_of (column_faults (names_of l.consts) (take l.column (trimmed_fields (fields_of l.header))) (drop l.column (trimmed_fields (fields_of l.header))))
    ≡ first_of (column_faults (names_of l.consts) [] (trimmed_fields (fields_of l.header)))
