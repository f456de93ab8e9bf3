use Rattle.std.proofs.Common.{arith}
use Rattle.sgl_outside.proofs.Writes.{writes_nothing}
use Rattle.battle_report.proofs.ElementTexts.{writes_more, writes_part}
use Rattle.battle_report.proofs.entries.write_entries.Goals as goal

pub loop-entry-init : goal.loop-entry-init
loop-entry-init g c = writes_nothing _ _ tt

pub returns-in-Err : goal.returns-in-Err
returns-in-Err g c =
    writes_part g.E.Entry.text_of c.args.entries.now _ _ _ _ _ _ c.loop-entry.entry-index _ _ (omega arith) c.entry-item.is tt _ _ c.loop-entry.invariant c.in-Err.ensures

pub loop-entry-preserved : goal.loop-entry-preserved
loop-entry-preserved g c =
    writes_more g.E.Entry.text_of c.args.entries.now _ _ _ _ _ _ c.loop-entry.entry-index _ _ (omega arith) c.entry-item.is tt _ c.loop-entry.invariant c.in-Ok.ensures
