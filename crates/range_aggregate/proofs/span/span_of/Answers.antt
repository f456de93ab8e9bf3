-- Numbers rise, so both searches find a bound of the span.
use Rattle.std.proofs.Common.{rules, int_lt, int_le}
use Rattle.std.proofs.lemmas.List.Sorted.{IsPartitionPoint-from_clause}
use Rattle.rank_table.proofs.Ranking.{IsPartitionedBy-lt, IsPartitionedBy-le}
use Rattle.range_aggregate.proofs.Spanning.{IsSpan-found}
use Rattle.range_aggregate.proofs.span.span_of.Goals as goal

pub returns : goal.returns
returns c =
    let numbers = c.args.numbers.now in
    let first = IsPartitionPoint-from_clause (λ z. int_lt z c.args.low) _ _ c.partition_point.ensures.partitioned (IsPartitionedBy-lt numbers c.args.low c.requires.rising) (λ a r q k. search rules) in
    let last = IsPartitionPoint-from_clause (λ z. int_le z c.args.high) _ _ c.partition_point-2.ensures.partitioned (IsPartitionedBy-le numbers c.args.high c.requires.rising) (λ a r q k. search rules) in
    IsSpan-found numbers c.args.low c.args.high _ _ c.requires.ordered c.partition_point.ensures.bound c.partition_point-2.ensures.bound first last
