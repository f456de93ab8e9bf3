-- The tree is small.
use Rattle.std.proofs.Common.{arith}
use Rattle.area_effects.proofs.Covering.{small-counts, IsSmall-wider}
use Rattle.area_effects.proofs.sweep.Sweep.count_at.Goals as goal

pub sum_before-requires-clause-small : goal.sum_before-requires-clause-small
sum_before-requires-clause-small c =
    IsSmall-wider 200000000000000000 1000000000000000000 c.args.self.now.counts.nodes.items (omega arith) (small-counts c.args.self.now c.requires.sweep)
