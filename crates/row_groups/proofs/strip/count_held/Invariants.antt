use Rattle.std.proofs.Common.{◌≡◌, ◌+◌, ◌≤◌, drop, length}
use Rattle.std.specs.Prelude.{filter}
use Rattle.row_groups.specs.Strips.{is_held}
use Rattle.row_groups.proofs.strip.count_held.Given as goal

abbrev pub invariant-loop-rank : goal.invariant-loop-rank
invariant-loop-rank l = record {
  few : l.count ≤ l.rank-index;
  rest : l.count + length (filter (is_held l.low (l.last + 1)) (drop l.rank-index l.ranks)) ≡ length (filter (is_held l.low (l.last + 1)) l.ranks);
}
