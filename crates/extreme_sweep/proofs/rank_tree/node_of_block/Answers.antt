use Rattle.std.proofs.Common.{◌*◌, subst, arith}
use Rattle.extreme_sweep.specs.Ranks.{unpacked}
use Rattle.extreme_sweep.specs.Tree.{StandsFor}
use Rattle.extreme_sweep.proofs.Packing.{block-entries}
use Rattle.extreme_sweep.proofs.Grouping.{placed-part}
use Rattle.extreme_sweep.proofs.rank_tree.node_of_block.Goals as goal

pub returns-clause-stands : goal.returns-clause-stands
returns-clause-stands c = λ all placed.
    let groups = c.args.groups.now in let places = c.args.places.now in let first = c.args.block * 16 in let end = c.min-end.result in
    subst (StandsFor (unpacked c.node_of_places.result)) (block-entries all places c.args.block end (omega (arith, c.min-end.ensures)))
    (c.node_of_places.ensures.stands all (placed-part all groups places placed first end (omega (arith, c.min-end.ensures, c.requires.block)) (omega (arith, c.min-end.ensures))))
