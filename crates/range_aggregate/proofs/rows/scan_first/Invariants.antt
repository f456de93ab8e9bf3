-- So many of the first ranks so far are among the rows.
use Rattle.std.proofs.Common.{◌≡◌, ◌≤◌, min, take}
use Rattle.range_aggregate.specs.Rows.{count_rows}
use Rattle.range_aggregate.proofs.rows.scan_first.Given as goal

abbrev pub invariant-loop-number : goal.invariant-loop-number
invariant-loop-number l = record {
  small : l.count ≤ l.number;
  counted : l.count ≡ count_rows l.rows.first l.rows.last (take (min l.number l.some) l.ranks);
}
