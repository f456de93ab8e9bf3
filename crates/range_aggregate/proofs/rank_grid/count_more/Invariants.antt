-- The ranks so far are counted.
use Rattle.std.proofs.Common.{take}
use Rattle.range_aggregate.specs.Rows.{CountsMore}
use Rattle.range_aggregate.proofs.rank_grid.count_more.Given as goal

abbrev pub invariant-loop-rank : goal.invariant-loop-rank
invariant-loop-rank l = CountsMore (take l.rank-index l.ranks) l.initial.bands l.bands
