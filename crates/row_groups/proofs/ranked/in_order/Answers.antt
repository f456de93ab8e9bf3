-- Rows and their numbers, both gathered by the order of the numbers.
use Rattle.std.proofs.Common.{◌≡◌, ◌∙◌, ◌<◌, ℕ, ℤ, pos, List, length, map, ap, sym, subst, arith}
use Rattle.std.proofs.lemmas.List.{length-map}
use Rattle.std.proofs.lemmas.List.Sorted.{All-permutation}
use Rattle.std.specs.Prelude.{All}
use Rattle.std.specs.List.Sorted.{IsPermutation}
use Rattle.rank_table.specs.Orders.{number_at, IsOrder}
use Rattle.rank_table.specs.Ranks.{IsRising}
use Rattle.rank_table.proofs.Ordering.{order-inside}
use Rattle.row_groups.specs.declared.ends.Scale.{Scale}
use Rattle.row_groups.specs.declared.ranked.Ranked.{Ranked}
use Rattle.row_groups.specs.Ends.{place_in, IsBetween}
use Rattle.row_groups.specs.Ranked.{ranked_in, AreInOrder}
use Rattle.row_groups.proofs.Scaling.{numbers-many, numbers-rise, rows-inside, rows-in_order, rows-numbers, rows-permute, rows-within}
use Rattle.row_groups.proofs.ranked.in_order.Goals as goal

-- the order is that of the numbers of the rows
order-of : (scale : Scale) (all : List Ranked) (places given : List ℤ) (order : List ℕ) → given ≡ places → places ≡ map (place_in scale) all → IsOrder given order → IsOrder (map (place_in scale) all) order
order-of scale all places given order is are ordered = subst (λ l. IsOrder l order) (is ∙ are) ordered

pub order_of-requires : goal.order_of-requires
order_of-requires c =
    omega (arith, c.requires.few, ap length (c.as_slice.ensures.value ∙ c.in_ok-places.ensures), length-map c.args.all.now (place_in c.scale_of-scale.result))

pub elements_at-requires : goal.elements_at-requires
elements_at-requires c =
    subst (All (λ (place : ℕ). place < length c.as_slice-2.result.now)) (sym c.as_slice-3.ensures.value)
    (subst (λ (l : List ℤ). All (λ (place : ℕ). place < length l) c.in_ok-order.order.items) (c.as_slice.ensures.value ∙ sym c.as_slice-2.ensures.value)
    (order-inside c.as_slice.result.now c.in_ok-order.order.items c.in_ok-order.ensures))

pub elements_at-requires-2 : goal.elements_at-requires-2
elements_at-requires-2 c =
    let scale = c.scale_of-scale.result in let all = c.args.all.now in let order = c.in_ok-order.order.items in
    let ordered = order-of scale all _ _ order c.as_slice.ensures.value c.in_ok-places.ensures c.in_ok-order.ensures in
    subst (All (λ (place : ℕ). place < length all)) (sym c.as_slice-4.ensures.value)
    (rows-inside scale c.scale_of-scale.ensures.scale all c.scale_of-scale.ensures.within order ordered)

-- the numbers that were gathered
gathered-numbers : (scale : Scale) (all : List Ranked) (places given found : List ℤ) (order taken : List ℕ) → found ≡ map (number_at given) taken → given ≡ places → places ≡ map (place_in scale) all
    → taken ≡ order → found ≡ map (number_at (map (place_in scale) all)) order
gathered-numbers scale all places given found order taken is at are same = is ∙ (λ i. map (number_at ((at ∙ are) i)) (same i))

pub build-requires-clause-few : goal.build-requires-clause-few
build-requires-clause-few c =
    let scale = c.scale_of-scale.result in let all = c.args.all.now in let order = c.in_ok-order.order.items in
    let ordered = order-of scale all _ _ order c.as_slice.ensures.value c.in_ok-places.ensures c.in_ok-order.ensures in
    let found = gathered-numbers scale all _ _ _ order _ (c.in_ok-places-2.ensures (pos 0)) c.as_slice-2.ensures.value c.in_ok-places.ensures c.as_slice-3.ensures.value in
    omega (arith, ap length found, numbers-many scale c.scale_of-scale.ensures.scale all c.scale_of-scale.ensures.within order ordered, c.requires.few)

pub build-requires-clause-rising : goal.build-requires-clause-rising
build-requires-clause-rising c =
    let scale = c.scale_of-scale.result in let all = c.args.all.now in let order = c.in_ok-order.order.items in
    let ordered = order-of scale all _ _ order c.as_slice.ensures.value c.in_ok-places.ensures c.in_ok-order.ensures in
    let found = gathered-numbers scale all _ _ _ order _ (c.in_ok-places-2.ensures (pos 0)) c.as_slice-2.ensures.value c.in_ok-places.ensures c.as_slice-3.ensures.value in
    subst IsRising (sym found) (numbers-rise scale c.scale_of-scale.ensures.scale all c.scale_of-scale.ensures.within order ordered)

pub returns-clause-permutation : goal.returns-clause-permutation
returns-clause-permutation c =
    let scale = c.scale_of-scale.result in let all = c.args.all.now in let order = c.in_ok-order.order.items in
    let ordered = order-of scale all _ _ order c.as_slice.ensures.value c.in_ok-places.ensures c.in_ok-order.ensures in
    subst (IsPermutation all) (sym (c.in_ok-ranked.ensures _ ∙ ap (map (ranked_in all)) c.as_slice-4.ensures.value))
    (rows-permute scale c.scale_of-scale.ensures.scale all c.scale_of-scale.ensures.within order ordered)

pub returns-clause-rising : goal.returns-clause-rising
returns-clause-rising c =
    let scale = c.scale_of-scale.result in let all = c.args.all.now in let order = c.in_ok-order.order.items in
    let ordered = order-of scale all _ _ order c.as_slice.ensures.value c.in_ok-places.ensures c.in_ok-order.ensures in
    subst AreInOrder (sym (c.in_ok-ranked.ensures _ ∙ ap (map (ranked_in all)) c.as_slice-4.ensures.value))
    (rows-in_order scale c.scale_of-scale.ensures.scale all c.scale_of-scale.ensures.within order ordered)

pub returns-clause-ends : goal.returns-clause-ends
returns-clause-ends c =
    let scale = c.scale_of-scale.result in let all = c.args.all.now in let order = c.in_ok-order.order.items in
    let ordered = order-of scale all _ _ order c.as_slice.ensures.value c.in_ok-places.ensures c.in_ok-order.ensures in
    let rows : c.in_ok-ranked.ranked.items ≡ map (ranked_in all) order = c.in_ok-ranked.ensures _ ∙ ap (map (ranked_in all)) c.as_slice-4.ensures.value in
    let found = gathered-numbers scale all _ _ _ order _ (c.in_ok-places-2.ensures (pos 0)) c.as_slice-2.ensures.value c.in_ok-places.ensures c.as_slice-3.ensures.value in
    let moved = rows-permute scale c.scale_of-scale.ensures.scale all c.scale_of-scale.ensures.within order ordered in
    record {
      scale = c.scale_of-scale.ensures.scale;
      groups = subst (All (λ (one : Ranked). one.group < 65536)) (sym rows) (All-permutation (λ (one : Ranked). one.group < 65536) all (map (ranked_in all) order) moved c.requires.groups);
      within = subst (All (IsBetween scale)) (sym rows) (rows-within scale c.scale_of-scale.ensures.scale all c.scale_of-scale.ensures.within order ordered);
      places = c.in_ok-places-3.ensures ∙ found ∙ sym (rows-numbers scale c.scale_of-scale.ensures.scale all c.scale_of-scale.ensures.within order ordered) ∙ ap (map (place_in scale)) (sym rows);
    }
