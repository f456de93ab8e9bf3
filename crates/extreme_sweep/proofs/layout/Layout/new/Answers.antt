-- The points are laid out by rising y, and the slots by rising x are theirs.
use Rattle.std.proofs.Common.{◌≡◌, ◌∙◌, ◌<◌, ◌≤◌, ℕ, ℤ, pos, List, map, length, get_or, sym, ap, subst, arith}
use Rattle.std.specs.Prelude.{All}
use Rattle.std.proofs.lemmas.List.{get_or-map, length-map, same_lists}
use Rattle.std.proofs.lemmas.Simd.{map-map}
use Rattle.std.proofs.lemmas.Result.{IfOk-at_ok}
use Rattle.std.proofs.lemmas.List.Sorted.{length_permutation}
use Rattle.std.specs.List.Sorted.{IsPermutation}
use Rattle.extreme_sweep.specs.declared.along.Heights.{Heights}
use Rattle.extreme_sweep.specs.declared.axis.Axis.{Axis}
use Rattle.extreme_sweep.specs.declared.axis.Axis.TheVariants.{X, Y}
use Rattle.extreme_sweep.specs.declared.window.SweepPoint.{SweepPoint}
use Rattle.extreme_sweep.specs.Laying.{entrant_at, entrant_of, placed_by, AreColumns, AreHeights, AreNumbered, IsInverse}
use Rattle.extreme_sweep.specs.Ranking.{points_of}
use Rattle.extreme_sweep.specs.Slots.{coordinate, point_at, slots_from, Slot}
use Rattle.extreme_sweep.proofs.Relaying.{entrants_relaid, ranks_numbered, slots_relaid}
use Rattle.extreme_sweep.proofs.Slotting.{laid-all, laid-along, laid-inside, laid-moved, slots-moved}
use Rattle.extreme_sweep.proofs.layout.Layout.new.Goals as goal

-- what is known of the points that were sorted, and of those that are laid out
record Laid (ranked : List SweepPoint) (heights : Heights) : Type 0 where
  few : length ranked ≤ 65536
  all : length ranked ≡ length heights.ranks.items
  inside : All (λ (rank : ℕ). rank < length ranked) heights.ranks.items
  moved : IsPermutation ranked (points_of ranked heights.ranks.items)
  along : heights.ys ≡ map (coordinate Y) (points_of ranked heights.ranks.items)

laid : (points ranked given : List SweepPoint) (heights : Heights) → length points ≤ 65536 → IsPermutation points ranked → given ≡ ranked → AreHeights given heights
    → Laid ranked heights
laid points ranked given heights few by-pair same given-are =
    let are : AreHeights ranked heights = subst (λ (l : List SweepPoint). AreHeights l heights) same given-are in
    let ranks = heights.ranks.items in
    let along = are.along in
    let moved = laid-moved Y ranked along.slots ranks along.moved along.ranks_are in
    record {
      few = omega (arith, few, length_permutation points ranked by-pair);
      all = omega (arith, length_permutation ranked (points_of ranked ranks) moved, length-map ranks (λ (rank : ℕ). point_at ranked rank));
      inside = laid-inside Y ranked along.slots ranks along.moved along.ranks_are;
      moved = moved;
      along = along.numbers_are ∙ laid-along Y ranked along.slots ranks along.moved along.ranks_are;
    }

-- each rank along an axis is less than the count of points
entering : (axis : Axis) (points : List SweepPoint) (slots : List Slot) (ranks given : List ℕ) → IsPermutation (slots_from axis 0 points) slots → ranks ≡ map (λ (s : Slot). s.place) slots → given ≡ ranks
    → (count : ℕ) → length points ≡ count → All (λ (rank : ℕ). rank < count) given
entering axis points slots ranks given moved are same count size =
    subst (λ (l : List ℕ). All (λ (rank : ℕ). rank < count) l) (sym same) (subst (λ (n : ℕ). All (λ (rank : ℕ). rank < n) ranks) size (laid-inside axis points slots ranks moved are))

-- the groups of ranks are those of the points that are laid out
groups-laid : (ranked : List SweepPoint) (ranks : List ℕ) → All (λ (rank : ℕ). rank < length ranked) ranks
    → map (λ rank. get_or (map (λ (p : SweepPoint). p.entry.group) ranked) rank (pos 0)) ranks ≡ map (λ (p : SweepPoint). p.entry.group) (points_of ranked ranks)
groups-laid ranked ranks inside =
    let group : SweepPoint → ℤ = λ p. p.entry.group in
    let of : ℕ → ℤ = λ rank. get_or (map group ranked) rank (pos 0) in
    let at : ℕ → ℤ = λ rank. group (point_at ranked rank) in
    same_lists (map of ranks) (map at ranks) (length-map ranks of ∙ sym (length-map ranks at))
    (λ k d below.
    let here : k < length ranks = omega (arith, below, length-map ranks of) in
    get_or-map of ranks k 0 d here ∙ get_or-map group ranked (get_or ranks k 0) _ (pos 0) (inside k 0 here) ∙ sym (get_or-map at ranks k 0 d here))
    ∙ sym (map-map group (point_at ranked) ranks)

-- the groups of all ranks are known
pub elements_at-requires : goal.elements_at-requires
elements_at-requires g c =
    let given = c.as_slice.result.now in
    let heights = IfOk-at_ok (AreHeights given) c.in_ok-ranks.was c.heights_and_columns-heights.ensures.heights in
    let columns = IfOk-at_ok (AreColumns given) c.in_ok-across.was c.heights_and_columns-heights.ensures.columns in
    let size : length given ≡ length c.as_slice-5.result.now =
    omega (arith, ap length columns.groups_are, length-map given (λ (p : SweepPoint). p.entry.group), ap length c.as_slice-5.ensures.value) in
    entering Y given heights.along.slots c.in_ok-ranks.field-0.ranks.items c.as_slice-6.result.now heights.along.moved heights.along.ranks_are c.as_slice-6.ensures.value (length c.as_slice-5.result.now) size

pub heights_and_columns-heights-requires-after_bounds : goal.heights_and_columns-heights-requires-after_bounds
heights_and_columns-heights-requires-after_bounds g c κs within =
    omega (arith, c.requires.few, ap length c.as_slice.ensures.value, length_permutation c.args.points.now c.in_ok-ranked.ranked.items c.in_ok-ranked.ensures.permutation)

pub entrants_of-requires-clause-places : goal.entrants_of-requires-clause-places
entrants_of-requires-clause-places g c =
    let given = c.as_slice.result.now in
    let heights = IfOk-at_ok (AreHeights given) c.in_ok-ranks.was c.heights_and_columns-heights.ensures.heights in
    let columns = IfOk-at_ok (AreColumns given) c.in_ok-across.was c.heights_and_columns-heights.ensures.columns in
    let size : length given ≡ length c.as_slice-3.result.now =
    omega (arith, laid-all Y given heights.along.slots c.in_ok-ranks.field-0.ranks.items heights.along.moved heights.along.ranks_are, heights.all, ap length c.as_slice-3.ensures.value) in
    entering X given columns.along.slots c.in_ok-across.field-0.ranks.items c.as_slice-2.result.now columns.along.moved columns.along.ranks_are c.as_slice-2.ensures.value (length c.as_slice-3.result.now) size

pub entrants_of-requires-clause-groups : goal.entrants_of-requires-clause-groups
entrants_of-requires-clause-groups g c =
    let given = c.as_slice.result.now in
    let columns = IfOk-at_ok (AreColumns given) c.in_ok-across.was c.heights_and_columns-heights.ensures.columns in
    let size : length given ≡ length c.as_slice-4.result.now =
    omega (arith, ap length columns.groups_are, length-map given (λ (p : SweepPoint). p.entry.group), ap length c.as_slice-4.ensures.value) in
    entering X given columns.along.slots c.in_ok-across.field-0.ranks.items c.as_slice-2.result.now columns.along.moved columns.along.ranks_are c.as_slice-2.ensures.value (length c.as_slice-4.result.now) size

pub returns-clause-layout : goal.returns-clause-layout
returns-clause-layout g c =
    let ranked = c.in_ok-ranked.ranked.items in
    let ranks = c.in_ok-ranks.field-0.ranks.items in
    let places = c.in_ok-ranks.field-0.places.items in
    let groups = c.in_ok-across.field-0.groups.items in
    let group : SweepPoint → ℤ = λ p. p.entry.group in
    let given = IfOk-at_ok (AreHeights c.as_slice.result.now) c.in_ok-ranks.was c.heights_and_columns-heights.ensures.heights in
    let is = laid c.args.points.now ranked c.as_slice.result.now c.in_ok-ranks.field-0 c.requires.few c.in_ok-ranked.ensures.permutation c.as_slice.ensures.value given in
    let heights : AreHeights ranked c.in_ok-ranks.field-0 = subst (λ (l : List SweepPoint). AreHeights l c.in_ok-ranks.field-0) c.as_slice.ensures.value given in
    let columns : AreColumns ranked c.in_ok-across.field-0 = subst (λ (l : List SweepPoint). AreColumns l c.in_ok-across.field-0) c.as_slice.ensures.value
    (IfOk-at_ok (AreColumns c.as_slice.result.now) c.in_ok-across.was c.heights_and_columns-heights.ensures.columns) in
    let slots = columns.along.slots in
    let down = slots-moved Y ranked heights.along.slots heights.along.moved in
    let across = slots-moved X ranked slots columns.along.moved in
    let numbered : AreNumbered down.0 ranks = ranks_numbered ranked heights.along.slots ranks places down.0 down.1 heights.along.ranks_are in
    let inverse : IsInverse places ranks = heights.inverse down.0 numbered in
    record {
      few = omega (arith, is.few, is.all);
      all = is.all;
      moved = is.moved;
      pairs_rise = c.in_ok-ranked.ensures.rising;
      groups = c.in_ok-groups.ensures (pos 0)
          ∙ (λ i. map (λ rank. get_or ((c.as_slice-5.ensures.value ∙ columns.groups_are) i) rank (pos 0)) (c.as_slice-6.ensures.value i))
          ∙ groups-laid ranked ranks is.inside;
      inside = is.inside;
      ys = is.along;
      ys_rise = heights.along.rising;
      slots = map (placed_by places) slots;
      rank = λ p. across.0 (get_or ranks p 0);
      are_slots = slots_relaid ranked heights.along.slots ranks places down.0 down.1 heights.along.ranks_are inverse slots across.0 across.1;
      entrants = c.in_ok-entrants.ensures
          ∙ (λ i. map (entrant_of (c.as_slice-3.ensures.value i) (c.as_slice-4.ensures.value i)) ((c.as_slice-2.ensures.value ∙ columns.along.ranks_are) i))
          ∙ entrants_relaid ranked heights.along.slots ranks places down.0 down.1 heights.along.ranks_are inverse slots across.0 across.1 groups
          ∙ (λ i. map (entrant_at ranks (columns.groups_are i)) (map (placed_by places) slots));
      xs = columns.along.numbers_are ∙ sym (map-map (λ (s : Slot). s.coordinate) (placed_by places) slots);
      xs_rise = columns.along.rising;
    }
