use Rattle.std.proofs.Common.{[], ap, sym, ◌∙◌}
use Rattle.csv.specs.Records.{fields_of}
use Rattle.csv.proofs.RecordFacts.{field-get, field-there}
use Rattle.unit_csv.specs.Fields.{trimmed}
use Rattle.std.proofs.Math.ListN.{get_or-map}
use Rattle.unit_csv.proofs.fields.field_at.Goals as goal

pub returns-in-Some : goal.returns-in-Some
returns-in-Some c =
    c.trimmed.ensures
    ∙ (ap trimmed (sym (field-get (fields_of c.args.row.now) c.args.place c.in-Some.field.now (sym c.in-Some.ensures.value)))
    ∙ sym (get_or-map trimmed (fields_of c.args.row.now) c.args.place []))

pub returns-in-None : goal.returns-in-None
returns-in-None c = absurd (field-there (fields_of c.args.row.now) c.args.place c.requires (sym c.in-None.ensures.value))
