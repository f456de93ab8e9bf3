use Rattle.std.proofs.Common.{◌≡◌, ◌∷◌, [], Bool, true, false, Result, Ok, Err, IfOk}
use Rattle.csv.specs.Records.{fields_of}
use Rattle.unit_csv.specs.Records.{records_left}
use Rattle.unit_csv.proofs.RecordsLeft.{reads_record}
use Rattle.unit_csv.proofs.records.read_record.Goals as goal

-- a fact for each answer that is Ok
for_ok : {D E : Type 0} (r : Result Bool D) (a : Result Bool E) → IfOk r (λ found. a ≡ Ok found) → (P : Bool → Type 0) → ((found : Bool) → a ≡ Ok found → P found) → IfOk r P
for_ok (Ok found) a same P each = each found same
for_ok (Err e) a same P each = tt

pub returns-clause-one : goal.returns-clause-one
returns-clause-one g c =
    for_ok c.found_or_memory.result c.read_byte_record.result c.found_or_memory.ensures
    (λ found. found ≡ true → records_left c.args.reader.now g.R.Read.remaining ≡ fields_of c.read_byte_record.new.row ∷ records_left c.read_byte_record.new.self g.R.Read.remaining)
    (λ found is. (reads_record g.R.Read.remaining c.args.reader.now c.read_byte_record.new.self found (fields_of c.read_byte_record.new.row) c.requires
    ((rw is at c.read_byte_record.ensures.reads) c.requires.trim c.requires.ready)).one)

pub returns-clause-none : goal.returns-clause-none
returns-clause-none g c =
    for_ok c.found_or_memory.result c.read_byte_record.result c.found_or_memory.ensures
    (λ found. found ≡ false → records_left c.args.reader.now g.R.Read.remaining ≡ [])
    (λ found is. (reads_record g.R.Read.remaining c.args.reader.now c.read_byte_record.new.self found (fields_of c.read_byte_record.new.row) c.requires
    ((rw is at c.read_byte_record.ensures.reads) c.requires.trim c.requires.ready)).none)
