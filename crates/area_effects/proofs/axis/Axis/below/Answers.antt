-- The numbers rise, so halving finds how many there are.
use Rattle.std.proofs.Common.{rules, subst, sym}
use Rattle.std.proofs.lemmas.List.Sorted.{IsPartitionPoint-from_clause}
use Rattle.std.specs.Prelude.{int_lt}
use Rattle.area_effects.specs.Ranks.{IsRising}
use Rattle.area_effects.proofs.Counting.{count-found, parted-below}
use Rattle.area_effects.proofs.axis.Axis.below.Goals as goal

pub returns : goal.returns
returns c =
    let parted = parted-below c.deref.result.now (subst IsRising (sym c.deref.ensures.value) c.requires.rising) c.args.number in
    count-found (λ z. int_lt z c.args.number) c.deref.result.now _ c.partition_point.result c.deref.ensures.value c.partition_point.ensures.bound
    (IsPartitionPoint-from_clause (λ z. int_lt z c.args.number) c.deref.result.now c.partition_point.result c.partition_point.ensures.partitioned parted (λ a r q k. search rules))
