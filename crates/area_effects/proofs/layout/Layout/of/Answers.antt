-- An axis has as many numbers as there are points.
use Rattle.std.proofs.Common.{ℤ, List, subst}
use Rattle.area_effects.specs.declared.point.AreaPoint.{AreaPoint}
use Rattle.area_effects.specs.Ranks.{IsAxis}
use Rattle.area_effects.proofs.Finding.{axis-ranked}
use Rattle.area_effects.proofs.layout.Layout.of.Goals as goal

pub spots_by_place-requires-clause-xs : goal.spots_by_place-requires-clause-xs
spots_by_place-requires-clause-xs c =
    let axis = c.of-xs.result.numbers.items in
    axis-ranked (λ (point : AreaPoint). point.x) c.args.points.now axis (subst (λ (numbers : List ℤ). IsAxis numbers axis) c.in_ok-xs_of.ensures c.of-xs.ensures) c.requires

pub spots_by_place-requires-clause-ys : goal.spots_by_place-requires-clause-ys
spots_by_place-requires-clause-ys c =
    let axis = c.of-ys.result.numbers.items in
    axis-ranked (λ (point : AreaPoint). point.y) c.args.points.now axis (subst (λ (numbers : List ℤ). IsAxis numbers axis) c.in_ok-ys_of.ensures c.of-ys.ensures) c.requires
