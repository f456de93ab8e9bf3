use Rattle.std.proofs.Common.{◌++◌, codes}
use Rattle.std.specs.Prelude.{flat_map}
use Rattle.unit_csv.proofs.WorldLines.{second_of_three, three_texts}
use Rattle.sgl_outside.proofs.Writes.{writes_cut}
use Rattle.battle_report.specs.Lines.{numbered}
use Rattle.battle_report.proofs.entries.write_entries_line.Goals as goal

pub returns-in-Ok-write_entries : goal.returns-in-Ok-write_entries
returns-in-Ok-write_entries g c =
    three_texts _ _ _ _ _ _ _ _ (numbered c.args.head.now c.args.number (codes ":")) (flat_map g.E.Entry.text_of c.args.entries.now) (codes "\n") _ _ _
    c.in-Ok.ensures c.in-Ok-write_entries.ensures c.put.ensures

pub returns-in-Err-write_entries : goal.returns-in-Err-write_entries
returns-in-Err-write_entries g c =
    second_of_three _ _ _ _ _ _ (numbered c.args.head.now c.args.number (codes ":")) (flat_map g.E.Entry.text_of c.args.entries.now) (codes "\n") _ _
    c.in-Ok.ensures c.in-Err-write_entries.ensures

pub returns-in-Err : goal.returns-in-Err
returns-in-Err g c =
    writes_cut _ _ _ _ (numbered c.args.head.now c.args.number (codes ":")) (flat_map g.E.Entry.text_of c.args.entries.now ++ codes "\n") _ _ c.in-Err.ensures
