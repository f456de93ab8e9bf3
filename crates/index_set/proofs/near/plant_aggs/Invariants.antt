use Rattle.index_set.specs.Near.{IsNearest}
use Rattle.index_set.specs.Owned.{AreOwn}
use Rattle.index_set.proofs.near.plant_aggs.Given as goal

abbrev pub invariant-loop-number : goal.invariant-loop-number
invariant-loop-number g l = AreOwn (IsNearest l.of.world.now.world.rows) l.trees.items l.number l.of.script.now
