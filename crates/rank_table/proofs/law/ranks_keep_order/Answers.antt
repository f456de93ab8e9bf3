-- The laws are laws of counts.
use Rattle.std.proofs.Common.{int_lt, int_le}
use Rattle.rank_table.proofs.Ranking.{bounded, below_rises, through_rises, tells_from, tells_to, parted_below, parted_through}
use Rattle.rank_table.proofs.law.ranks_keep_order.Goals as goal

pub returns-clause-bounded : goal.returns-clause-bounded
returns-clause-bounded c number zs = (bounded (λ z. int_lt z number) zs, bounded (λ z. int_le z number) zs)

pub returns-clause-rising : goal.returns-clause-rising
returns-clause-rising c low high zs rise = (below_rises low high zs rise, through_rises low high zs rise)

pub returns-clause-from : goal.returns-clause-from
returns-clause-from c low number zs among = tells_from low number zs among

pub returns-clause-to : goal.returns-clause-to
returns-clause-to c high number zs among = tells_to high number zs among

pub returns-clause-part : goal.returns-clause-part
returns-clause-part c number zs rise = (parted_below number zs rise, parted_through number zs rise)
