-- The cells rise, so the ones before a place are the first.
use Rattle.std.proofs.Common.{rules}
use Rattle.std.proofs.lemmas.List.Sorted.{IsPartitionPoint-from_clause}
use Rattle.effect_combine.specs.Batch.{is_before}
use Rattle.effect_combine.proofs.BatchLemmas.{CellsRise-partitioned}
use Rattle.effect_combine.proofs.places.find_place.Goals as goal

pub returns : goal.returns
returns c =
    let parted = CellsRise-partitioned c.args.row c.args.attr c.args.cells.now c.requires in
    let point = IsPartitionPoint-from_clause (λ cell. is_before c.args.row c.args.attr cell) _ _ c.partition_point.ensures.partitioned parted (λ a r q k. search rules) in
    record { bound = c.partition_point.ensures.bound; below = point.0; above = point.1 }
