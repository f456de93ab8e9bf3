-- Sorted points are as many as before, and the index has them.
use Rattle.std.proofs.Common.{◌≡◌, List, length, subst, sym, ap, map, arith}
use Rattle.std.specs.List.Sorted.{IsPermutation}
use Rattle.std.proofs.lemmas.List.Sorted.{length_permutation}
use Rattle.std.proofs.lemmas.Result.{IfOk-weaker}
use Rattle.range_aggregate.specs.Heights.{AreHeights}
use Rattle.range_aggregate.specs.declared.point.Point.{Point}
use Rattle.range_aggregate.proofs.index.RangeIndex.build.Goals as goal

pub sorted_heights-requires : goal.sorted_heights-requires
sorted_heights-requires g c =
    omega (arith, c.requires, length_permutation _ _ c.in_ok-points.ensures.same, ap length c.as_slice.ensures.value)

pub of-requires-clause-few : goal.of-requires-clause-few
of-requires-clause-few g c = omega (arith, c.requires, length_permutation _ _ c.in_ok-points.ensures.same)

pub of-requires-clause-heights : goal.of-requires-clause-heights
of-requires-clause-heights g c =
    subst (λ (l : List Point). AreHeights (map (λ point. point.y) l) c.in_ok-heights.heights) c.as_slice.ensures.value c.in_ok-heights.ensures

pub returns : goal.returns
returns g c =
    let same : (index : List Point) → index ≡ c.in_ok-points.points.items → IsPermutation c.args.points.now index =
    λ index is. subst (IsPermutation c.args.points.now) (sym is) c.in_ok-points.ensures.same in
    IfOk-weaker c.of.result _ _ same c.of.ensures
