-- The spots of all points are moved by the sort.
use Rattle.std.proofs.Common.{◌≡◌, ℕ, arith, length, rules, subst}
use Rattle.std.proofs.lemmas.List.Sorted.{IsNonDecreasingBy-from_sort_by_key}
use Rattle.area_effects.specs.declared.spot.Spot.{Spot}
use Rattle.area_effects.specs.Layouts.{AreFirstSpots}
use Rattle.area_effects.proofs.Spotting.{spots-moved}
use Rattle.area_effects.proofs.layout.spots_by_place.Goals as goal

pub returns : goal.returns
returns c =
    let xs = c.args.xs.now.numbers.items in let ys = c.args.ys.now.numbers.items in let points = c.args.points.now in
    let spots = c.loop-number.spots.items in
    let whole : c.loop-number.number ≡ length points = omega arith in
    let rising = IsNonDecreasingBy-from_sort_by_key (λ (spot : Spot). spot.place) _ c.sort_unstable_by_key.ensures.sorted (λ a r q k. search rules) in
    spots-moved xs ys points spots c.sort_unstable_by_key.new.self.items (subst (λ (n : ℕ). AreFirstSpots xs ys points n spots) whole c.loop-number.invariant)
    c.sort_unstable_by_key.ensures.permutation rising
