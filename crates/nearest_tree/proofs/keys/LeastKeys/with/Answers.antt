use Rattle.std.proofs.Common.{rules}
use Rattle.nearest_tree.proofs.Keying.{keys-same, keys-new-first, keys-stay}
use Rattle.nearest_tree.proofs.keys.LeastKeys.with.Goals as goal

pub returns-then-point-self : goal.returns-then-point-self
returns-then-point-self c points are = keys-same c.args.self.now _ c.args.point.now points are (search rules) (search rules) c.lesser_key.ensures.least c.lesser_key.ensures.below (search rules)

pub returns-then-point-self-2 : goal.returns-then-point-self-2
returns-then-point-self-2 c points are = keys-new-first c.args.self.now _ c.args.point.now points are (search rules) (search rules) (search rules) (search rules) (search rules)

pub returns-else-point-self-2 : goal.returns-else-point-self-2
returns-else-point-self-2 c points are = keys-stay c.args.self.now _ c.args.point.now points are (search rules) (search rules) (search rules) (search rules) c.lesser.ensures
