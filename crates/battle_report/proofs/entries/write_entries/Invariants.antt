use Rattle.std.proofs.Common.{Ok, take}
use Rattle.std.specs.Prelude.{flat_map}
use Rattle.sgl_outside.specs.Sinks.{Writes}
use Rattle.sgl_outside.specs.declared.Failed.{Failed}
use Rattle.battle_report.proofs.entries.write_entries.Given as goal

abbrev pub invariant-loop-entry : goal.invariant-loop-entry
invariant-loop-entry g l =
    Writes {T = Unit {0}} {E = Failed} (g.S.Sink.written l.fn.out) (g.S.Sink.written l.out) (g.S.Sink.faults l.fn.out) (g.S.Sink.faults l.out) (Ok tt) (flat_map g.E.Entry.text_of (take l.entry-index l.entries))
