-- Points by rising x stand where the ranks of the bounds are.
use Rattle.std.proofs.Common.{◌≡◌, ◌≤◌, List, filter, length, subst}
use Rattle.std.specs.Prelude.{slice_range}
use Rattle.std.proofs.lemmas.Int.{to_z-of_z}
use mir.Val.{SFits}
use mir.Syntax.{w64}
use Rattle.sgl_values.specs.Range.{is_between}
use Rattle.range_aggregate.specs.declared.point.Point.{Point}
use Rattle.range_aggregate.proofs.Ranking.{columns_bound, columns_count}
use Rattle.range_aggregate.proofs.index.RangeIndex.columns.Goals as goal

pub returns-clause-within : goal.returns-clause-within
returns-clause-within c =
    let fits : SFits w64 c.args.x2 = c.ranges.x2 in
    let through = simp to_z-of_z at c.through.ensures in
    subst (λ (points : List Point). c.through.result ≤ length points) c.self.view_is (columns_bound _ _ _ _ _ c.self.invariant c.args.x2 c.through.result through)

pub returns-clause-found : goal.returns-clause-found
returns-clause-found c =
    let fits_x1 : SFits w64 c.args.x1 = c.ranges.x1 in
    let fits_x2 : SFits w64 c.args.x2 = c.ranges.x2 in
    let below = simp to_z-of_z at c.below.ensures in
    let through = simp to_z-of_z at c.through.ensures in
    subst (λ (points : List Point). filter (λ point. is_between c.args.x1 c.args.x2 point.x) points ≡ slice_range points c.below.result c.through.result) c.self.view_is
    (columns_count _ _ _ _ _ c.self.invariant c.args.x1 c.args.x2 c.below.result c.through.result below through)
