use Rattle.std.proofs.Common.{◌≤◌, take}
use Rattle.std.specs.Io.KnownBytes.{Appends}
use Rattle.unit_csv.specs.Lines.{rows_text}
use Rattle.unit_csv.proofs.write.write_rows.Given as goal

abbrev pub invariant-loop-row : goal.invariant-loop-row
invariant-loop-row g l = record {
  wrote : Appends (g.S.Sink.written l.fn.out) (g.S.Sink.written l.out) (rows_text (take l.row l.world.world.rows));
  later : g.S.Sink.faults l.fn.out ≤ g.S.Sink.faults l.out;
}
