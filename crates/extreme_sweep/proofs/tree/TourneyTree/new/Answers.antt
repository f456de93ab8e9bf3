use Rattle.std.proofs.Common.{◌≡◌, ◌*◌, ◌≤◌, replicate, arith, rules}
use Rattle.std.specs.Prelude.{None}
use Rattle.extreme_sweep.proofs.Blocks.{tournament-empty}
use Rattle.extreme_sweep.proofs.tree.TourneyTree.new.Goals as goal

pub invariant_of-result : goal.invariant_of-result
invariant_of-result c =
    let blocks = c.div_ceil-blocks.result in let n = c.args.places in
    let covered : n ≤ 16 * blocks = omega (arith, c.div_ceil-blocks.ensures) in
    let places : c.in_ok-places.places.items ≡ replicate n None = search rules in
    tournament-empty blocks n c.in_ok-places.places.items c.in_ok-nodes.nodes.items places (c.in_ok-nodes.ensures.items_if_clones_equal (λ y is. is)) covered
