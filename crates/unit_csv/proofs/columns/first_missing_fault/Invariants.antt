use Rattle.std.proofs.Common.{◌≡◌, ◌+◌, drop}
use Rattle.csv.specs.Records.{fields_of}
use Rattle.unit_csv.specs.Fields.{trimmed_fields}
use Rattle.unit_csv.specs.Units.{first_of, missing_faults, names_of}
use Rattle.unit_csv.proofs.columns.first_missing_fault.Given as goal

abbrev pub invariant-loop-number : goal.invariant-loop-number
invariant-loop-number l =
    first_of (missing_faults (trimmed_fields (fields_of l.header)) (l.number + 1) (drop l.number l.consts))
    ≡ first_of (missing_faults (trimmed_fields (fields_of l.header)) 0 (names_of l.consts))
