-- With no tree no point has weight; else a box is a strip of what stands in its columns.
use Rattle.std.proofs.Common.{ap, sym, subst, ◌∙◌, rules}
use Rattle.std.proofs.lemmas.Int.{to_z-of_z}
use mir.Val.{SFits}
use mir.Syntax.{w64, w128}
use Rattle.range_aggregate.specs.Boxes.{is_in, weight_of}
use Rattle.range_aggregate.specs.Levels.{AreWeightless, WeighsAs}
use Rattle.range_aggregate.proofs.Ranking.{weightless}
use Rattle.range_aggregate.proofs.Strips.{box_strip}
use Rattle.range_aggregate.proofs.index.RangeIndex.sum.Goals as goal

pub returns-in-None : goal.returns-in-None
returns-in-None c =
    let none : AreWeightless c.self.inside.points.items = subst (WeighsAs c.self.inside.points.items) c.in-None.is c.self.invariant.weights_are in
    sym (weightless (is_in c.args.x1 c.args.x2 c.args.y1 c.args.y2) c.args.self.now (subst AreWeightless c.self.view_is none))

pub returns-in-Some : goal.returns-in-Some
returns-in-Some c =
    let fits_x1 : SFits w64 c.args.x1 = c.ranges.x1 in
    let fits_x2 : SFits w64 c.args.x2 = c.ranges.x2 in
    let fits_y1 : SFits w64 c.args.y1 = c.ranges.y1 in
    let fits_y2 : SFits w64 c.args.y2 = c.ranges.y2 in
    let fits : SFits w128 c.weigh_strip.result = search rules in
    let found = simp to_z-of_z at c.columns-columns.ensures.found in
    let weighed = simp to_z-of_z at c.weigh_strip.ensures in
    to_z-of_z w128 c.weigh_strip.result fits ∙ weighed ∙ sym (ap weight_of (box_strip c.args.self.now c.args.x1 c.args.x2 c.args.y1 c.args.y2 _ _ found))
