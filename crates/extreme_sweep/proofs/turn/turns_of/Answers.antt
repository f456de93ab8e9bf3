use Rattle.std.proofs.Common.{◌≡◌, ◌∙◌, ◌<◌, ℕ, ℤ, List, length, map, ap, subst, sym}
use Rattle.std.proofs.lemmas.List.{length-map}
use Rattle.std.proofs.lemmas.List.Elements.{All-map, All-take}
use Rattle.std.proofs.lemmas.List.Sorted.{All-permutation}
use Rattle.std.specs.Prelude.{All, slice_index_or}
use Rattle.rank_table.specs.Orders.{IsOrder}
use Rattle.rank_table.proofs.Ordering.{order-inside}
use Rattle.extreme_sweep.specs.declared.turn.Asked.{Asked}
use Rattle.extreme_sweep.specs.declared.window.Window.{Window}
use Rattle.extreme_sweep.specs.Answers.{window_at, AreAsked, AreTurns}
use Rattle.extreme_sweep.proofs.turn.turns_of.Goals as goal
use Rattle.extreme_sweep.proofs.turn.turns_of.Goals.{then-not-asked, else-not-asked}

module _ (windows : List Window) (asked : Asked) (are : AreAsked windows asked) (numbers : List ℕ) (same : numbers ≡ asked.numbers.items) where
  -- each place of the order of the left ends is one of a number
  ordered : (lefts : List ℤ) (order places : List ℕ) → lefts ≡ asked.lefts.items → IsOrder lefts order → places ≡ order
      → All (λ (place : ℕ). place < length numbers) places
  ordered lefts order places left is given =
      let size : length lefts ≡ length numbers =
      ap length (left ∙ are.lefts) ∙ length-map asked.numbers.items (λ (number : ℕ). (window_at windows number).x1) ∙ sym (ap length same) in
      subst (All (λ (place : ℕ). place < length numbers)) (sym given)
      (subst (λ (n : ℕ). All (λ (place : ℕ). place < n) order) size (order-inside lefts order is))

  -- and what stands there is the number of a window
  turned : (places turns : List ℕ) → All (λ (place : ℕ). place < length numbers) places → turns ≡ map (λ place. slice_index_or numbers place 0) places
      → AreTurns windows turns
  turned places turns inside is =
      let Inside : ℕ → Type 0 = λ number. number < length windows in
      let all : All Inside numbers = subst (All Inside) (sym same) are.inside in
      subst (All Inside) (sym is) (All-map Inside (λ place. slice_index_or numbers place 0) places (λ k d below. all (slice_index_or places k d) 0 (inside k d below)))

pub elements_at-requires : goal.elements_at-requires
elements_at-requires c =
    ordered c.args.windows.now c.in_ok-asked.asked c.in_ok-asked.ensures c.as_slice-2.result.now c.as_slice-2.ensures.value
    c.as_slice.result.now c.in_ok-order.order.items c.as_slice-3.result.now c.as_slice.ensures.value c.in_ok-order.ensures c.as_slice-3.ensures.value

pub returns : goal.returns
returns c =
    let windows = c.args.windows.now in
    let asked = c.in_ok-asked.asked in
    let are = c.in_ok-asked.ensures in
    let numbers = c.as_slice-2.result.now in
    let inside = ordered windows asked are numbers c.as_slice-2.ensures.value
    c.as_slice.result.now c.in_ok-order.order.items c.as_slice-3.result.now c.as_slice.ensures.value c.in_ok-order.ensures c.as_slice-3.ensures.value in
    let made = turned windows asked are numbers c.as_slice-2.ensures.value c.as_slice-3.result.now c.in_ok-turns.turns.items inside (c.in_ok-turns.ensures 0) in
    let Inside : ℕ → Type 0 = λ number. number < length windows in
    elim c.if-not-asked.branch [
      | then-not-asked w ↦
          let sorted = w.sort_unstable_by_key in
          subst (All Inside) (sym ((λ i. (w.turns-is i).items) ∙ w.truncate.ensures.items)) (All-take Inside w.end_of_widths.result sorted.new.self.items
          (All-permutation Inside c.in_ok-turns.turns.items sorted.new.self.items sorted.ensures.permutation made))
      | else-not-asked w ↦ subst (All Inside) (sym (λ i. (w.turns-is i).items)) made
    ]
