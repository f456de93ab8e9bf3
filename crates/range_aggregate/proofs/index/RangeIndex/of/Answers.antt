-- Points by rising x have their numbers x, y and ranks.
use Rattle.std.proofs.Common.{◌≡◌, ◌<◌, ℕ, ℤ, List, length, map, subst, sym, ap, ◌∙◌, arith}
use Rattle.std.specs.List.{All}
use Rattle.std.proofs.lemmas.List.{length-map}
use Rattle.rank_table.specs.Orders.{number_at}
use Rattle.rank_table.specs.Ranks.{IsRising}
use Rattle.range_aggregate.specs.Heights.{AreHeights}
use Rattle.range_aggregate.specs.Levels.{WeighsAs}
use Rattle.range_aggregate.specs.Rows.{AreInverse}
use Rattle.range_aggregate.specs.declared.heights.Heights.{Heights}
use Rattle.range_aggregate.specs.declared.point.Point.{Point}
use Rattle.range_aggregate.proofs.Ordered.{all_many, all_places, as_many, ranks_within, ys_at_ranks, ys_rise}
use Rattle.range_aggregate.proofs.index.RangeIndex.of.Goals as goal

abbrev y_of : Point → ℤ
y_of point = point.y

pub build-requires-clause-few : goal.build-requires-clause-few
build-requires-clause-few c =
    omega (arith, c.requires.few, ap length c.as_slice.ensures.value, ap length c.in_ok-xs_of.ensures, length-map c.as_slice.result.now (λ (point : Point). point.x))

pub build-requires-clause-rising : goal.build-requires-clause-rising
build-requires-clause-rising c =
    subst IsRising (sym (c.in_ok-xs_of.ensures ∙ ap (map (λ (point : Point). point.x)) c.as_slice.ensures.value)) c.requires.rising

-- there are as many numbers in order, and as many places, as points
many_places : (points : List Point) (heights : Heights) → AreHeights (map y_of points) heights → length heights.places.items ≡ length points
many_places points heights are = all_many (map y_of points) heights are ∙ length-map points y_of

many_ys : (points : List Point) (heights : Heights) → AreHeights (map y_of points) heights → length heights.ys.items ≡ length points
many_ys points heights are = sym (as_many (map y_of points) heights are) ∙ many_places points heights are

pub build-requires-2-clause-few : goal.build-requires-2-clause-few
build-requires-2-clause-few c = omega (arith, c.requires.few, many_places c.args.points.items c.args.heights c.requires.heights)

pub build-requires-2-clause-all : goal.build-requires-2-clause-all
build-requires-2-clause-all c = all_places (map y_of c.args.points.items) c.args.heights c.requires.heights

pub build-requires-3-clause-few : goal.build-requires-3-clause-few
build-requires-3-clause-few c = omega (arith, c.requires.few, many_ys c.args.points.items c.args.heights c.requires.heights)

pub build-requires-3-clause-rising : goal.build-requires-3-clause-rising
build-requires-3-clause-rising c = ys_rise (map y_of c.args.points.items) c.args.heights c.requires.heights

pub invariant_of-result : goal.invariant_of-result
invariant_of-result c =
    let points = c.args.points.items in
    let heights = c.args.heights in
    let ys : List ℤ = map y_of points in
    let x = λ (point : Point). point.x in
    let ranks = c.in_ok-ranks.ranks in
    let inverse : AreInverse ranks heights.places.items = c.in_ok-ranks.ensures in
    let xs : c.in_ok-xs.xs ≡ map x points = c.in_ok-xs.ensures ∙ c.in_ok-xs_of.ensures ∙ ap (map x) c.as_slice.ensures.value in
    record {
      few = c.requires.few;
      xs_are = xs;
      rising = subst IsRising (sym xs) c.requires.rising;
      ys_many = ap length c.in_ok-ys.ensures ∙ many_ys points heights c.requires.heights;
      ys_rising = subst IsRising (sym c.in_ok-ys.ensures) (ys_rise ys heights c.requires.heights);
      within = subst (λ (l : List ℤ). All (λ (rank : ℕ). rank < length l) ranks) (sym c.in_ok-ys.ensures) (ranks_within ys heights c.requires.heights ranks inverse);
      ranks_are = subst (λ (l : List ℤ). map (number_at l) ranks ≡ ys) (sym c.in_ok-ys.ensures) (ys_at_ranks ys heights c.requires.heights ranks inverse);
      weights_are = subst (λ (l : List Point). WeighsAs l c.in_ok-weights.weights) c.as_slice-2.ensures.value c.in_ok-weights.ensures;
    }
