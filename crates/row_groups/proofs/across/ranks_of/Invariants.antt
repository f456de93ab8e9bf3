use Rattle.std.proofs.Common.{◌≡◌, map, take}
use Rattle.row_groups.specs.Across.{rank_in}
use Rattle.row_groups.proofs.across.ranks_of.Given as goal

abbrev pub invariant-loop-ranked : goal.invariant-loop-ranked
invariant-loop-ranked l = l.ranks.items ≡ map (rank_in l.table) (take l.ranked-index l.all)
