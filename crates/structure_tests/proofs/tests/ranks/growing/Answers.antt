-- What is sorted rises.
use Rattle.rank_table.proofs.Ranking.{IsRising-sorted}
use Rattle.structure_tests.proofs.tests.ranks.growing.Goals as goal

pub returns : goal.returns
returns c = IsRising-sorted _ c.in_ok-sort.ensures.sorted
