use Rattle.std.proofs.Common.{◌≡◌, ◌≤◌, ◌++◌, ℕ, List, map, drop}
use Rattle.std.specs.Io.KnownBytes.{Appends}
use Rattle.battle_watch.specs.Watches.{watch_text}
use Rattle.battle_watch.proofs.audience.write_watches.Given as goal

abbrev pub invariant-loop-number : goal.invariant-loop-number
invariant-loop-number g l = record {
  done : List ℕ;
  wrote : Appends (g.O.Sink.written l.fn.out) (g.O.Sink.written l.out) done;
  text : done ++ watch_text l.number (drop l.number (map (λ watch. watch.notes) l.watches.items)) ≡ watch_text 0 (map (λ watch. watch.notes) l.watches.items);
  later : g.O.Sink.faults l.fn.out ≤ g.O.Sink.faults l.out;
}
