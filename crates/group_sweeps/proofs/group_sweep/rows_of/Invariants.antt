use Rattle.std.proofs.Common.{◌≡◌, ◌++◌}
use Rattle.group_sweeps.proofs.group_sweep.rows_of.Given as goal

abbrev pub invariant-loop-row : goal.invariant-loop-row
invariant-loop-row l = record {
  made : l.rows.items ≡ l.yielded;
  split : l.fn.walk ≡ l.yielded ++ l.row-iterator;
}
