-- One rank more is counted to its band.
use Rattle.std.proofs.Common.{◌≡◌, ◌/◌, ◌<◌, length, get_or, arith}
use Rattle.range_aggregate.proofs.Bands.{CountsMore-more, count_within}
use Rattle.range_aggregate.proofs.rank_grid.count_more.Goals as goal
use Rattle.range_aggregate.proofs.rank_grid.count_more.Goals.{After-from}

module _ (c : After-from) where
  below : c.loop-rank.rank-index < length c.args.ranks.now
  below = omega (arith, c.loop-rank-test.true)

  at : c.from.result ≡ get_or c.args.ranks.now c.loop-rank.rank-index 0
  at = omega (arith, c.from.ensures)

  held : c.from.result / 256 < length c.args.bands.now
  held = omega (arith, at, c.requires.within c.loop-rank.rank-index 0 below)

pub overflow_add-bands : goal.overflow_add-bands
overflow_add-bands c =
    let before = (goal.at.overflow_add-bands c).After-from in
    let within = count_within c.args.ranks.now c.args.bands.now c.loop-rank.bands c.loop-rank.rank-index (c.from.result / 256) (omega (arith, below before)) (held before) c.loop-rank.invariant in
    omega (arith, within, below before, c.requires.few)

pub loop-rank-preserved : goal.loop-rank-preserved
loop-rank-preserved c =
    let before = (goal.at.loop-rank-preserved c).After-from in
    CountsMore-more c.args.ranks.now c.args.bands.now c.loop-rank.bands c.loop-rank.rank-index c.from.result (get_or c.loop-rank.bands (c.from.result / 256) 0) (below before) (at before) (held before) (omega arith) c.loop-rank.invariant
