use Rattle.std.proofs.Common.{◌∙◌, ap, length, map, refl}
use Rattle.unit_csv.specs.Kept.{row_of}
use Rattle.unit_csv.proofs.Entries.{none_found, rising-insert_entry, rows-insert_entry, wide-insert_entry}
use Rattle.unit_csv.proofs.record.put_unit.Goals as goal

pub returns-clause-rows : goal.returns-clause-rows
returns-clause-rows c =
    ap (map row_of) c.in_ok-insert.ensures.entries
    ∙ rows-insert_entry c.args.units.now.entries c.args.key c.args.values (none_found _ c.requires.fresh)

pub returns-clause-wide : goal.returns-clause-wide
returns-clause-wide c = λ wide.
    rw c.in_ok-insert.ensures.entries (wide-insert_entry (length c.args.values) c.args.units.now.entries c.args.key c.args.values refl wide)

pub returns-clause-rising : goal.returns-clause-rising
returns-clause-rising c = λ rising.
    rw c.in_ok-insert.ensures.entries (rising-insert_entry 0 c.args.units.now.entries c.args.key c.args.values (none_found _ c.requires.fresh) c.requires.positive rising)
