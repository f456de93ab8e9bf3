-- The points of a strip are those with ranks among its rows.
use Rattle.std.proofs.Common.{◌≡◌, ◌≤◌, List, length, subst, sym, ◌∙◌, arith}
use Rattle.std.specs.Prelude.{slice_range}
use Rattle.rank_table.specs.Ranks.{count_below, count_through}
use Rattle.std.proofs.lemmas.Int.{to_z-of_z}
use mir.Val.{SFits}
use mir.Syntax.{w64}
use Rattle.range_aggregate.specs.Levels.{strip}
use Rattle.range_aggregate.specs.declared.point.Point.{Point}
use Rattle.range_aggregate.proofs.Ranking.{as_many, rank_bound, strip_count, strip_none}
use Rattle.range_aggregate.proofs.index.RangeIndex.count_strip.Goals as goal
use Rattle.range_aggregate.proofs.index.RangeIndex.count_strip.Goals.{After-through}

-- the ranks of the edges
ranks : (c : After-through) → (c.below.result ≡ count_below c.args.y1 c.self.inside.ys) × (c.through.result ≡ count_through c.args.y2 c.self.inside.ys)
ranks c =
    let fits_y1 : SFits w64 c.args.y1 = c.ranges.y1 in
    let fits_y2 : SFits w64 c.args.y2 = c.ranges.y2 in
    (simp to_z-of_z at c.below.ensures, simp to_z-of_z at c.through.ensures)

bound : (c : After-through) → c.args.columns.to ≤ length c.self.inside.points.items
bound c = subst (λ (points : List Point). c.args.columns.to ≤ length points) (sym c.self.view_is) c.requires

-- there are as many ranks as points
many : (c : After-through) → length c.self.inside.ranks ≡ length c.self.inside.points.items
many c = as_many _ _ _ _ _ c.self.invariant

pub count-requires-clause-columns : goal.count-requires-clause-columns
count-requires-clause-columns c =
    let before = (goal.at.count-requires-clause-columns c).After-through in
    omega (arith, bound before, many before)

pub count-requires-clause-rows : goal.count-requires-clause-rows
count-requires-clause-rows c =
    let before = (goal.at.count-requires-clause-rows c).After-through in
    omega (arith, (ranks before).1, many before, rank_bound _ _ _ _ _ c.self.invariant c.args.y2)

pub returns-then-rows : goal.returns-then-rows
returns-then-rows c =
    let before = (goal.at.returns-then-rows c).After-through in
    let columns = c.args.columns in
    let none = strip_none _ _ _ _ _ c.self.invariant columns.from columns.to (bound before) c.args.y1 c.args.y2 c.below.result c.through.result (ranks before).0 (ranks before).1 c.if-rows.true in
    sym (subst (λ (points : List Point). length (strip c.args.y1 c.args.y2 (slice_range points columns.from columns.to)) ≡ 0) c.self.view_is none)

pub returns : goal.returns
returns c =
    let before = (goal.at.returns c).After-through in
    let columns = c.args.columns in
    let counted = strip_count _ _ _ _ _ c.self.invariant columns.from columns.to (bound before) c.args.y1 c.args.y2 c.below.result c.through.result (ranks before).0 (ranks before).1 c.if-rows.false in
    subst (λ (points : List Point). c.count.result ≡ length (strip c.args.y1 c.args.y2 (slice_range points columns.from columns.to))) c.self.view_is (c.count.ensures ∙ counted)
