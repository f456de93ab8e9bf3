use Rattle.std.proofs.Common.{◌≡◌, length}
use Rattle.group_sweeps.specs.Finds.{KeepsOthers, PutsEach}
use Rattle.group_sweeps.proofs.group_sweep.put_found.Given as goal

abbrev pub invariant-loop-i : goal.invariant-loop-i
invariant-loop-i l = record {
  size : length l.found ≡ length l.initial.found;
  each : PutsEach l.rows l.own l.i l.found;
  others : KeepsOthers l.rows l.initial.found l.found;
}
