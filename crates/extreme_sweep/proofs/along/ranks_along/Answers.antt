-- The ranks by rising coordinate are the places of slots by rising coordinate.
use Rattle.std.proofs.Common.{◌≡◌, ◌∙◌, ◌<◌, ℕ, ℤ, List, length, map, ap, arith, pos, subst, sym}
use Rattle.std.proofs.lemmas.List.{length-map}
use Rattle.std.specs.Prelude.{All}
use Rattle.rank_table.proofs.Ordering.{order-inside, order-length}
use Rattle.rank_table.specs.Orders.{number_at, IsOrder}
use Rattle.rank_table.specs.Ranks.{IsRising}
use Rattle.extreme_sweep.specs.declared.axis.Axis.{Axis}
use Rattle.extreme_sweep.specs.declared.window.SweepPoint.{SweepPoint}
use Rattle.extreme_sweep.specs.Slots.{coordinate, slot_of, Slot}
use Rattle.extreme_sweep.proofs.Ranges.{IsRising-map}
use Rattle.extreme_sweep.proofs.Slotting.{coordinates-of-slots, places-of-slots, slots-placed, slots-rising}
use Rattle.extreme_sweep.proofs.along.ranks_along.Goals as goal

-- what an order of the coordinates gives
record Gathered (axis : Axis) (ranked : List SweepPoint) (coordinates : List ℤ) (order : List ℕ) (rising : List ℤ) : Type 0 where
  few : length rising ≡ length ranked
  all : length order ≡ length ranked
  is : IsOrder (map (coordinate axis) ranked) order
  slots : rising ≡ map (λ (s : Slot). s.coordinate) (map (slot_of (map (coordinate axis) ranked)) order)
  rises : IsRising rising

gathered : (axis : Axis) (ranked : List SweepPoint) (coordinates given again : List ℤ) (order places : List ℕ) (rising : List ℤ) → coordinates ≡ map (coordinate axis) ranked → given ≡ coordinates → again ≡ coordinates
    → places ≡ order → IsOrder given order → rising ≡ map (λ place. number_at again place) places → Gathered axis ranked coordinates order rising
gathered axis ranked coordinates given again order places rising are first second same is found =
    let zs = map (coordinate axis) ranked in
    let ordered : IsOrder zs order = subst (λ (l : List ℤ). IsOrder l order) (first ∙ are) is in
    let slots : rising ≡ map (λ (s : Slot). s.coordinate) (map (slot_of zs) order) =
    found ∙ (λ i. map (λ place. number_at ((second ∙ are) i) place) (same i)) ∙ coordinates-of-slots zs order in
    let all = order-length zs order ordered ∙ length-map ranked (coordinate axis) in
    record {
      few = ap length found ∙ length-map places (λ place. number_at again place) ∙ ap length same ∙ all;
      all = all;
      is = ordered;
      slots = slots;
      rises = subst IsRising (sym slots) (IsRising-map (λ (s : Slot). s.coordinate) (map (slot_of zs) order) (slots-rising zs order ordered));
    }

pub order_of-requires : goal.order_of-requires
order_of-requires c = omega (arith, c.requires, ap length (c.as_slice.ensures.value ∙ c.in_ok-coordinates.ensures), length-map c.args.ranked.now (coordinate c.args.axis))

pub elements_at-requires : goal.elements_at-requires
elements_at-requires c =
    subst (All (λ (p : ℕ). p < length c.as_slice-2.result.now)) (sym c.as_slice-3.ensures.value)
    (subst (λ (l : List ℤ). All (λ (p : ℕ). p < length l) c.in_ok-ranks.ranks.items) (c.as_slice.ensures.value ∙ sym c.as_slice-2.ensures.value)
    (order-inside c.as_slice.result.now c.in_ok-ranks.ranks.items c.in_ok-ranks.ensures))

pub build-requires-clause-few : goal.build-requires-clause-few
build-requires-clause-few c =
    let is = gathered c.args.axis c.args.ranked.now c.in_ok-coordinates.coordinates.items c.as_slice.result.now c.as_slice-2.result.now c.in_ok-ranks.ranks.items c.as_slice-3.result.now c.in_ok-rising.rising.items
    c.in_ok-coordinates.ensures c.as_slice.ensures.value c.as_slice-2.ensures.value c.as_slice-3.ensures.value c.in_ok-ranks.ensures (c.in_ok-rising.ensures (pos 0)) in
    omega (arith, is.few, c.requires)

pub build-requires-clause-rising : goal.build-requires-clause-rising
build-requires-clause-rising c =
    let is = gathered c.args.axis c.args.ranked.now c.in_ok-coordinates.coordinates.items c.as_slice.result.now c.as_slice-2.result.now c.in_ok-ranks.ranks.items c.as_slice-3.result.now c.in_ok-rising.rising.items
    c.in_ok-coordinates.ensures c.as_slice.ensures.value c.as_slice-2.ensures.value c.as_slice-3.ensures.value c.in_ok-ranks.ensures (c.in_ok-rising.ensures (pos 0)) in
    is.rises

pub returns : goal.returns
returns c =
    let ranked = c.args.ranked.now in let axis = c.args.axis in let order = c.in_ok-ranks.ranks.items in let zs = map (coordinate axis) ranked in
    let is = gathered c.args.axis c.args.ranked.now c.in_ok-coordinates.coordinates.items c.as_slice.result.now c.as_slice-2.result.now c.in_ok-ranks.ranks.items c.as_slice-3.result.now c.in_ok-rising.rising.items
    c.in_ok-coordinates.ensures c.as_slice.ensures.value c.as_slice-2.ensures.value c.as_slice-3.ensures.value c.in_ok-ranks.ensures (c.in_ok-rising.ensures (pos 0)) in
    record {
      slots = map (slot_of zs) order;
      moved = slots-placed axis ranked order is.is;
      ranks_are = places-of-slots zs order;
      numbers_are = c.in_ok-numbers.ensures ∙ is.slots;
      rising = subst IsRising (sym c.in_ok-numbers.ensures) is.rises;
    }
