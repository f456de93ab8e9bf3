use Rattle.std.proofs.Common.{◌≡◌, ◌+◌, drop}
use Rattle.csv.specs.Records.{fields_of}
use Rattle.unit_csv.specs.Fields.{trimmed_fields}
use Rattle.unit_csv.specs.Units.{place_of}
use Rattle.unit_csv.proofs.columns.place_of.Given as goal

abbrev pub invariant-loop-column : goal.invariant-loop-column
invariant-loop-column l =
    l.column + place_of (drop l.column (trimmed_fields (fields_of l.header))) l.name ≡ place_of (trimmed_fields (fields_of l.header)) l.name
