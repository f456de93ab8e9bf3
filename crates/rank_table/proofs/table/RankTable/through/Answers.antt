-- The part near the number is parted where all numbers are; where it is the number alone, at its end.
use Rattle.std.proofs.Common.{ℤ, rules, int_le}
use Rattle.std.proofs.lemmas.List.Sorted.{IsPartitionPoint-from_clause}
use mir.Val.{SFits}
use mir.Syntax.{w64}
use Rattle.rank_table.proofs.Bucketing.{count_through_whole, count_near, le_parts, near_kept, whole_kept}
use Rattle.rank_table.proofs.table.RankTable.through.Goals as goal

pub returns-then-self-eq0 : goal.returns-then-self-eq0
returns-then-self-eq0 c = let own = c.self.invariant.buckets_are in count_through_whole _ _ c.self.view_is c.args.number c.near-near.result (near_kept c.ranges.number (c.near-near.ensures.near _ own)) (whole_kept _ _ _ c.ranges.number (c.near-near.ensures.whole _ own c.if-self-eq0.true))

pub returns : goal.returns
returns c = let fits : SFits w64 c.args.number = c.ranges.number in let near = near_kept c.ranges.number (c.near-near.ensures.near _ c.self.invariant.buckets_are) in
    count_near _ _ c.self.view_is c.args.number c.near-near.result near c.self.invariant.rising _ (le_parts c.args.number) _ _ c.deref.ensures.value c.partition_point.ensures.bound (λ parts. IsPartitionPoint-from_clause (λ (z : ℤ). int_le z c.args.number) _ _ c.partition_point.ensures.partitioned parts (λ a r q k. search rules))
