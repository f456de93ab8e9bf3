use Rattle.std.proofs.Common.{◌≡◌, ◌∙◌, ◌*◌, ◌≤◌, map, replicate, ap, arith, rules, subst, sym}
use Rattle.std.specs.Prelude.{pos}
use Rattle.extreme_sweep.specs.Ranks.{no_rank, rank_entries, unpacked, ArePlaced}
use Rattle.extreme_sweep.proofs.Blocks.{tournament-empty}
use Rattle.extreme_sweep.proofs.Packing.{no-entries, no-nodes, packed-none}
use Rattle.extreme_sweep.proofs.Grouping.{placed-none}
use Rattle.extreme_sweep.proofs.rank_tree.RankTree.new.Goals as goal

pub returns-clause-tree : goal.returns-clause-tree
returns-clause-tree c = λ groups by_place few all.
    let blocks = c.div_ceil-blocks.result in let n = c.args.places in
    let covered : n ≤ 16 * blocks = omega (arith, c.div_ceil-blocks.ensures) in
    let places : c.in_ok-places.places.items ≡ replicate n no_rank = search rules in
    let nodes : c.in_ok-nodes.nodes.items ≡ replicate (2 * blocks) (record { first = no_rank; second = no_rank; group = pos 0 }) =
    c.in_ok-nodes.ensures.items_if_clones_equal (λ y is. is) ∙ ap (replicate (2 * blocks)) c.empty.ensures in
    record {
      few = few;
      placed = subst (ArePlaced groups by_place) (sym places) (placed-none groups by_place n (omega (arith, few)) all);
      packed = packed-none c.in_ok-nodes.nodes.items (2 * blocks) nodes;
      tournament = tournament-empty blocks n (rank_entries groups c.in_ok-places.places.items) (map unpacked c.in_ok-nodes.nodes.items)
          (ap (rank_entries groups) places ∙ no-entries groups n (omega (arith, few))) (ap (map unpacked) nodes ∙ no-nodes (2 * blocks)) covered;
    }
