-- Nothing has weight in no columns, and in an empty strip.
use Rattle.std.proofs.Common.{◌≡◌, [], ap, sym}
use Rattle.std.specs.Prelude.{slice_range}
use Rattle.std.proofs.lemmas.Int.{to_z-of_z}
use mir.Val.{SFits}
use mir.Syntax.{w64}
use Rattle.range_aggregate.specs.Boxes.{weight_of}
use Rattle.range_aggregate.specs.Levels.{strip}
use Rattle.range_aggregate.proofs.Slices.{slice_range_none}
use Rattle.range_aggregate.proofs.Strips.{empty_strip}
use Rattle.range_aggregate.proofs.index.RangeIndex.weigh_strip.Goals as goal
use Rattle.range_aggregate.proofs.index.RangeIndex.weigh_strip.Goals.{then-columns-via-then-columns, then-columns-via-else-columns+then-y1-y2}

pub returns-then-columns : goal.returns-then-columns
returns-then-columns c =
    let fits_y1 : SFits w64 c.args.y1 = c.ranges.y1 in
    let fits_y2 : SFits w64 c.args.y2 = c.ranges.y2 in
    let columns = c.args.columns in
    let part = slice_range c.args.self.now columns.from columns.to in
    let none : strip c.args.y1 c.args.y2 part ≡ [] = elim c.then-columns.branch [
      | then-columns-via-then-columns w ↦ ap (strip c.args.y1 c.args.y2) (slice_range_none c.args.self.now columns.from columns.to w.if-columns.true)
      | then-columns-via-else-columns+then-y1-y2 w ↦ empty_strip part c.args.y1 c.args.y2 (simp to_z-of_z at w.if-y1-y2.true)
    ] in
    sym (ap weight_of none)
