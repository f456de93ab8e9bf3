-- The points of a block in the strip are neighbours, and the running sums on both sides of them differ by their weight.
use Rattle.std.proofs.Common.{◌≡◌, ◌+◌, ◌≤◌, length, map, subst, sym, ap, ◌∙◌, arith, rules}
use Rattle.std.specs.Prelude.{slice_range}
use Rattle.std.proofs.lemmas.Int.{ints, to_z-of_z}
use Rattle.std.proofs.lemmas.List.{length-map}
use Rattle.std.proofs.lemmas.List.Edits.{length-between}
use mir.Val.{SFits}
use mir.Syntax.{w64}
use Rattle.range_aggregate.specs.Boxes.{weight_of}
use Rattle.range_aggregate.specs.Levels.{strip}
use Rattle.range_aggregate.specs.Spans.{IsSpan}
use Rattle.range_aggregate.specs.declared.point.Point.{Point}
use Rattle.range_aggregate.proofs.Slices.{map-slice_range}
use Rattle.range_aggregate.proofs.Strips.{strip-span}
use Rattle.range_aggregate.proofs.Weights.{weight_of-slice_range}
use Rattle.range_aggregate.proofs.level.Level.weigh_block.Goals as goal

pub returns-clause-found : goal.returns-clause-found
returns-clause-found c points kept =
    let level = c.args.self.now in
    let span = c.span_of-found.result in
    let start = c.args.start in
    let stop = start + level.size in
    let y = λ (point : Point). point.y in
    let long : length points ≡ length level.ys.items = sym (length-map points y) ∙ ap length (sym kept.ys) in
    let same : slice_range c.deref.result.now start stop ≡ map y (slice_range points start stop) =
    ap (λ l. slice_range l start stop) (c.deref.ensures.value ∙ kept.ys) ∙ sym (map-slice_range y points start stop) in
    let fits_low : SFits w64 c.args.y1 = c.ranges.y1 in
    let fits_high : SFits w64 c.args.y2 = c.ranges.y2 in
    let found = simp to_z-of_z at c.span_of-found.ensures in
    let at : IsSpan (map y (slice_range points start stop)) c.args.y1 c.args.y2 span = subst (λ l. IsSpan l c.args.y1 c.args.y2 span) same found in
    let kept_points : strip c.args.y1 c.args.y2 (slice_range points start stop) ≡ slice_range points (start + span.from) (start + span.to) =
    strip-span points start stop (omega arith) (omega arith) c.args.y1 c.args.y2 span at in
    let ends : span.to ≤ level.size = omega (arith, at.bound, length-map (slice_range points start stop) y, length-between points start stop (omega arith)) in
    let last = kept.sums.each (start + span.to) c.index-2.result.now (omega arith) in
    let first = kept.sums.each (start + span.from) c.index.result.now (omega (arith, at.ordered)) in
    let parts = weight_of-slice_range points (start + span.from) (start + span.to) (omega (arith, at.ordered)) in
    let fits_last : SFits w64 c.index-2.result.now = search rules in
    let fits_first : SFits w64 c.index.result.now = search rules in
    omega (arith, ints, ap weight_of kept_points, last, first, parts, c.index.ensures, c.index-2.ensures, c.from.ensures, c.from-before.ensures)
