use Rattle.std.proofs.Common.{◌≡◌, ◌≤◌, ◌+◌, ◌-◌, List, ℕ, length}
use Rattle.std.specs.Io.KnownBytes.{Consumes}
use Rattle.battle_host.proofs.reading.read_file.Given as goal

abbrev pub invariant-reads : goal.invariant-reads
invariant-reads g l = record {
  within : length l.bytes.items ≤ l.fn.limit;
  held : g.F.Folder.held l.folder ≡ g.F.Folder.held l.fn.folder;
  read : Consumes (g.F.Folder.left l.initial.folder l.fn.name) (g.F.Folder.left l.folder l.fn.name) l.bytes.items;
  later : (other : List ℕ) → g.F.Folder.faults l.fn.folder other ≤ g.F.Folder.faults l.folder other;
}

abbrev pub decreases-reads : goal.decreases-reads
decreases-reads g l = l.fn.limit + 1 - length l.bytes.items
