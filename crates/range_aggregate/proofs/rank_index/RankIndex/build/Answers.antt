-- Each rank is less than there are ranks.
use Rattle.std.proofs.Common.{ℕ, ◌<◌, List, length, sym, subst}
use Rattle.std.specs.Prelude.{All}
use Rattle.range_aggregate.proofs.Inverse.{ranks_within}
use Rattle.range_aggregate.proofs.rank_index.RankIndex.build.Goals as goal

pub build-requires-clause-within : goal.build-requires-clause-within
build-requires-clause-within c =
    subst (λ (ranks : List ℕ). All (λ (rank : ℕ). rank < length ranks) ranks) (sym c.as_slice-2.ensures.value)
    (ranks_within c.in_ok-ranks.ranks.items c.as_slice.result.now c.in_ok-ranks.ensures)
