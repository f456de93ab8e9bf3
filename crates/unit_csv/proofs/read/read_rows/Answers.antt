use Rattle.std.proofs.Common.{◌≡◌, ◌∙◌, ◌∷◌, ◌+◌, [], arith, ap, drop, map}
use Rattle.csv.specs.Records.{fields_of}
use Rattle.unit_csv.specs.Fields.{trimmed_fields}
use Rattle.unit_csv.specs.Kept.{has_unit, rows_left, rows_of}
use Rattle.unit_csv.specs.Units.{by_key, first_of, records_faults, unit_of}
use Rattle.unit_csv.proofs.Turns.{counted_more, dropped_more, fault_turn, known_turn, rows_turn, sound_turn, taken_all, within_limit}
use Rattle.unit_csv.proofs.read.read_rows.Goals as goal

pub records-preserved : goal.records-preserved
records-preserved g c =
    let held = c.records.invariant in
    let n = c.records.count in
    let columns = c.args.columns.now in
    let known = has_unit c.records.units in
    let every = rows_left c.args.reader.now g.R.Read.remaining in
    let rest = rows_left c.read_record.new.reader g.R.Read.remaining in
    let fields = trimmed_fields (fields_of c.read_record.new.row) in
    let split : rows_left c.records.reader g.R.Read.remaining ≡ fields ∷ rest = ap (map trimmed_fields) (c.in_ok-read_record.ensures.one c.if-branch.true) in
    let dropped : drop n every ≡ fields ∷ rest = held.left ∙ split in
    record {
      reading = c.in_ok-read_record.ensures.reading;
      few = within_limit columns.count columns.key (n + 1) known fields (omega (arith, held.few)) c.in-Ok.ensures.sound;
      counted = counted_more n every fields rest dropped held.counted;
      left = dropped_more n every fields rest dropped;
      sound = sound_turn columns.count columns.key n every (rows_left c.records.reader g.R.Read.remaining) rest fields known (first_of (records_faults columns.count columns.key [] every)) held.left split
          held.counted held.known c.in-Ok.ensures.sound held.sound;
      rows = rows_turn columns.key n columns.consts every rest fields (rows_of c.records.units) (rows_of c.add_unit.new.units) dropped c.in-Ok.ensures.rows held.rows;
      known = λ k. known_turn columns.key n k every rest fields (known k) (has_unit c.add_unit.new.units k) dropped c.in-Ok.ensures.is_key (c.in-Ok.ensures.known k) (held.known k);
      wide = c.in-Ok.ensures.wide held.wide;
      size = omega (arith, c.in-Ok.ensures.counted, held.size);
      rising = c.in-Ok.ensures.rising held.rising;
    }

pub returns-in-Err-clause-fault : goal.returns-in-Err-clause-fault
returns-in-Err-clause-fault g c = λ real.
    let held = c.records.invariant in
    let columns = c.args.columns.now in
    fault_turn columns.count columns.key c.records.count (rows_left c.args.reader.now g.R.Read.remaining) (rows_left c.records.reader g.R.Read.remaining)
    (rows_left c.read_record.new.reader g.R.Read.remaining) (trimmed_fields (fields_of c.read_record.new.row)) (has_unit c.records.units)
    (first_of (records_faults columns.count columns.key [] (rows_left c.args.reader.now g.R.Read.remaining))) c.in-Err.fault
    (ap (map trimmed_fields) (c.in_ok-read_record.ensures.one c.if-branch.true)) held.counted held.known (c.in-Err.ensures.fault real) held.sound

pub returns-clause-rows : goal.returns-clause-rows
returns-clause-rows g c =
    let held = c.records.invariant in
    let none = ap (map trimmed_fields) (c.in_ok-read_record.ensures.none c.if-branch.false) in
    held.rows
    ∙ ap (λ rows. by_key (map (unit_of c.args.columns.now.key c.args.columns.now.consts) rows))
    (taken_all c.records.count (rows_left c.args.reader.now g.R.Read.remaining) (held.left ∙ none))
