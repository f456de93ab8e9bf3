use Rattle.std.proofs.Common.{◌≡◌, List, ℕ, ◌++◌, ◌≤◌, length}
use Rattle.std.specs.Io.KnownBytes.{Appends}
use Rattle.sgl_outside.proofs.sinks.put.Given as goal

abbrev pub invariant-loop-rest : goal.invariant-loop-rest
invariant-loop-rest g l = record {
  taken : List ℕ;
  whole : taken ++ l.rest ≡ l.fn.piece;
  appends : Appends (g.S.Sink.written l.fn.out) (g.S.Sink.written l.out) taken;
  later : g.S.Sink.faults l.fn.out ≤ g.S.Sink.faults l.out;
}

abbrev pub decreases-loop-rest : goal.decreases-loop-rest
decreases-loop-rest g l = length l.rest
