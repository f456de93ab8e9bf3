-- A box is a strip of what stands in its columns.
use Rattle.std.proofs.Common.{length, ap, sym, ◌∙◌}
use Rattle.std.proofs.lemmas.Int.{to_z-of_z}
use mir.Val.{SFits}
use mir.Syntax.{w64}
use Rattle.range_aggregate.proofs.Strips.{box_strip}
use Rattle.range_aggregate.proofs.index.RangeIndex.count.Goals as goal

pub returns : goal.returns
returns c =
    let fits_x1 : SFits w64 c.args.x1 = c.ranges.x1 in
    let fits_x2 : SFits w64 c.args.x2 = c.ranges.x2 in
    let fits_y1 : SFits w64 c.args.y1 = c.ranges.y1 in
    let fits_y2 : SFits w64 c.args.y2 = c.ranges.y2 in
    let found = simp to_z-of_z at c.columns-columns.ensures.found in
    let counted = simp to_z-of_z at c.count_strip.ensures in
    counted ∙ sym (ap length (box_strip c.args.self.now c.args.x1 c.args.x2 c.args.y1 c.args.y2 _ _ found))
