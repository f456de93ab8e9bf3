use Rattle.std.proofs.Common.{◌≡◌, ◌∙◌, ◌∷◌, Bor, List, ℕ, Result, Ok, Some, IfOk, length, ap, ap₂, arith, map, subst, sym}
use Rattle.csv.specs.Records.{fields_of}
use Rattle.env_table.specs.Table.{Table}
use Rattle.unit_csv.specs.declared.faults.UnitFault.{UnitFault}
use Rattle.unit_csv.specs.Fields.{trimmed_fields}
use Rattle.unit_csv.specs.Kept.{rows_left}
use Rattle.unit_csv.specs.Records.{records_left}
use Rattle.unit_csv.specs.Units.{units_of, units_under}
use Rattle.unit_csv.proofs.FieldCount.{few_columns}
use Rattle.unit_csv.proofs.Schemas.{few_consts}
use Rattle.unit_csv.proofs.read.read_units.Goals as goal

pub header_fault-requires-clause-narrow : goal.header_fault-requires-clause-narrow
header_fault-requires-clause-narrow c =
    let few = few_columns c.args.text.now (fields_of c.read_record.new.row) (records_left c.read_record.new.reader (λ (s : Bor (List ℕ)). Some s.now))
    (sym c.reader_of-reader.ensures.records ∙ c.in_ok-read_record.ensures.one c.if-not-branch.false) in
    omega (arith, few, c.requires)

pub read_under-requires-clause-narrow : goal.read_under-requires-clause-narrow
read_under-requires-clause-narrow c =
    let few = few_columns c.args.text.now (fields_of c.read_record.new.row) (records_left c.read_record.new.reader (λ (s : Bor (List ℕ)). Some s.now))
    (sym c.reader_of-reader.ensures.records ∙ c.in_ok-read_record.ensures.one c.if-not-branch.false) in
    omega (arith, few, c.requires)

pub read_under-requires-clause-few : goal.read_under-requires-clause-few
read_under-requires-clause-few c = omega (arith, few_consts c.args.schema.now, ap length c.as_slice-consts.ensures)

pub returns-clause-world : goal.returns-clause-world
returns-clause-world c =
    let split = sym c.reader_of-reader.ensures.records ∙ c.in_ok-read_record.ensures.one c.if-not-branch.false in
    let same : units_of c.args.text.now c.args.schema.now ≡ units_under c.as_slice-consts.result.now
    (trimmed_fields (fields_of c.read_record.new.row) ∷ rows_left c.read_record.new.reader (λ (s : Bor (List ℕ)). Some s.now)) =
    ap₂ units_under (sym c.as_slice-consts.ensures) (ap (map trimmed_fields) split) in
    subst (λ (t : Result Table UnitFault). IfOk c.read_under.result (λ world. t ≡ Ok world)) (sym same) c.read_under.ensures.world
