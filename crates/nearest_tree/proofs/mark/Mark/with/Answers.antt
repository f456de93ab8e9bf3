use Rattle.nearest_tree.proofs.Marking.{stands-more}
use Rattle.nearest_tree.proofs.mark.Mark.with.Goals as goal

pub returns : goal.returns
returns c points stands =
    stands-more c.args.self.now _ c.args.point.now points stands c.lesser.ensures c.greater.ensures c.lesser-2.ensures c.greater-2.ensures
    (c.with.ensures points stands.keys)
