use Rattle.std.proofs.Common.{◌∙◌, ap, sym, rules}
use Rattle.csv.specs.Records.{fields_of}
use Rattle.unit_csv.specs.Fields.{trimmed_fields}
use Rattle.unit_csv.specs.Kept.{rows_of}
use Rattle.unit_csv.specs.Units.{is_key, placed}
use Rattle.unit_csv.proofs.Parts.{number_is, unit_is}
use Rattle.unit_csv.proofs.record.add_unit.Goals as goal

pub returns-clause-rows : goal.returns-clause-rows
returns-clause-rows c =
    c.in_ok-put_unit.ensures.rows
    ∙ ap (placed (rows_of c.args.units.now))
    (unit_is (trimmed_fields (fields_of c.args.row.now)) c.in_ok-numbers.numbers c.in_ok-values.values c.args.columns.now.key c.key_at-key.result c.args.columns.now.consts
    c.in_ok-numbers.ensures.numbers (search rules) (search rules))

pub returns-clause-is_key : goal.returns-clause-is_key
returns-clause-is_key c =
    ap is_key (sym (number_is (trimmed_fields (fields_of c.args.row.now)) c.in_ok-numbers.numbers c.args.columns.now.key c.in_ok-numbers.ensures.numbers)) ∙ (search rules)
