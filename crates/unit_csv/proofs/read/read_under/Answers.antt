use Rattle.std.proofs.Common.{arith}
use Rattle.std.proofs.lemmas.List.{length-map}
use Rattle.csv.specs.Records.{fields_of}
use Rattle.unit_csv.specs.Fields.{trimmed, trimmed_fields}
use Rattle.unit_csv.proofs.Tables.{key_inside}
use Rattle.unit_csv.proofs.read.read_under.Goals as goal

pub read_rows-requires-clause-key : goal.read_rows-requires-clause-key
read_rows-requires-clause-key g c =
    let inside = key_inside c.args.consts.now (trimmed_fields (fields_of c.args.header.now)) c.requires.sound in
    omega (arith, inside, c.in_ok-columns.ensures.key, c.in_ok-columns.ensures.count, length-map (fields_of c.args.header.now) trimmed)
