-- So many of the ranks so far are among the rows.
use Rattle.std.proofs.Common.{◌≡◌, ◌≤◌, take}
use Rattle.range_aggregate.specs.Rows.{count_rows}
use Rattle.range_aggregate.proofs.rows.scan.Given as goal

abbrev pub invariant-loop-rank : goal.invariant-loop-rank
invariant-loop-rank l = record {
  small : l.count ≤ l.rank-index;
  counted : l.count ≡ count_rows l.rows.first l.rows.last (take l.rank-index l.ranks);
}
