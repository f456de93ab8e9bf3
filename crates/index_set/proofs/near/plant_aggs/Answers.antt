use Rattle.std.proofs.Common.{List, Option, ◌+◌, sym, subst}
use Rattle.group_trees.specs.Points.{Planted}
use Rattle.index_set.specs.Near.{IsNearest}
use Rattle.index_set.specs.Owned.{AreOwn}
use Rattle.index_set.proofs.Owning.{own_more}
use Rattle.index_set.proofs.near.plant_aggs.Goals as goal

pub loop-number-preserved : goal.loop-number-preserved
loop-number-preserved g c =
    let script = c.args.of.now.script.now in
    let is = IsNearest c.args.of.now.world.now.world.rows in
    subst (λ (trees : List (Option Planted)). AreOwn is trees (c.loop-number.number + 1) script) (sym c.in_ok-push.ensures.items)
    (own_more is script c.loop-number.trees.items c.loop-number.number c.in_ok-trees_for.field-0 c.loop-number.invariant c.in_ok-trees_for.ensures)
