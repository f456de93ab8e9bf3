-- The edges are made of the ranks.
use Rattle.std.proofs.Common.{◌≡◌, ◌∙◌, pos, neg_ℤ, max, arith, rules}
use Rattle.std.proofs.lemmas.Int.{ints, to_z-of_z}
use lib.IntN.{negsuc}
use mir.Val.{SFits}
use mir.Syntax.{w64}
use Rattle.area_effects.specs.Ranks.{count_below, count_through}
use Rattle.area_effects.proofs.edge.Edge.both_of.Goals as goal
use Rattle.area_effects.proofs.edge.Edge.both_of.Goals.{After-max-high}

-- where the box begins, and its ranks
begins : (c : After-max-high) → c.below-place.result ≡ count_below c.args.xs.now.numbers.items c.args.area.now.x1
begins c =
    let fits : SFits w64 c.args.area.now.x1 = search rules in simp to_z-of_z at c.below-place.ensures

low_is : (c : After-max-high) → c.below-low.result ≡ count_below c.args.ys.now.numbers.items c.args.area.now.y1
low_is c =
    let fits : SFits w64 c.args.area.now.y1 = search rules in simp to_z-of_z at c.below-low.ensures

high_is : (c : After-max-high) → c.max-high.result ≡ max (count_through c.args.ys.now.numbers.items c.args.area.now.y2) (count_below c.args.ys.now.numbers.items c.args.area.now.y1)
high_is c =
    let fits : SFits w64 c.args.area.now.y2 = search rules in
    let high : c.through.result ≡ count_through c.args.ys.now.numbers.items c.args.area.now.y2 = simp to_z-of_z at c.through.ensures in
    c.max-high.ensures ∙ (λ i. max (high i) (low_is c i))

pub returns-clause-opening : goal.returns-clause-opening
returns-clause-opening c =
    let at = (goal.at.returns-clause-opening c).After-max-high in
    let amount : _ ≡ c.args.area.now.amount = omega (arith, ints, c.get-amount.ensures.value, c.get-amount.ensures.low, c.get-amount.ensures.high) in
    λ i. record { place = begins at i; low = low_is at i; high = high_is at i; amount = amount i; count = pos 1 }

pub returns-clause-closing : goal.returns-clause-closing
returns-clause-closing c =
    let at = (goal.at.returns-clause-closing c).After-max-high in
    let fits : SFits w64 c.args.area.now.x2 = search rules in
    let place = simp to_z-of_z at c.through-2.ensures in
    let amount : _ ≡ neg_ℤ c.args.area.now.amount = omega (arith, ints, c.get-amount.ensures.value, c.get-amount.ensures.low, c.get-amount.ensures.high) in
    λ i. record { place = (c.max.ensures ∙ (λ j. max (place j) (begins at j))) i; low = low_is at i; high = high_is at i; amount = amount i; count = negsuc 0 }
