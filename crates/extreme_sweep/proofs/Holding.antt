-- What the tree of a sweeper holds after a point enters or leaves.
use Rattle.std.proofs.Common.{◌≡◌, ◌∙◌, ◌+◌, ◌<◌, ◌≤◌, ℕ, true, false, cond, List, length, get_or, replicate, set, sym, ap, arith, ⊎_elim, get_or-set_other}
use Rattle.std.proofs.lemmas.Bool.{cases_eq}
use Rattle.std.proofs.lemmas.Bool.Decides.{nat_tests}
use Rattle.std.proofs.lemmas.Grind.{get_or-set_at}
use Rattle.std.proofs.lemmas.List.{length-map, length-set, length-replicate, get_or-map, get_or-replicate}
use Rattle.std.specs.Prelude.{Option, Some, None}
use Rattle.extreme_sweep.specs.declared.pair.Entry.{Entry}
use Rattle.extreme_sweep.specs.declared.axis.Axis.TheVariants.{X}
use Rattle.extreme_sweep.specs.declared.layout.Layout.{Layout}
use Rattle.extreme_sweep.specs.declared.placing.Entrant.{Entrant}
use Rattle.extreme_sweep.specs.declared.window.SweepPoint.{SweepPoint}
use Rattle.extreme_sweep.specs.Laying.{entrant_at}
use Rattle.extreme_sweep.specs.Slots.{point_at, slot_at, is_among, Slot, AreSlots}
use Rattle.extreme_sweep.specs.Sweeping.{groups_of, Holds, IsLayout}

among-more : (from to k : ℕ) → (k ≡ to → ⊥) → is_among from (to + 1) k ≡ is_among from to k
among-more from to k other = grind (arith, nat_tests)

among-none : (from to k : ℕ) → k ≡ to → is_among from to k ≡ false
among-none from to k is = grind (arith, nat_tests)

among-last : (from to k : ℕ) → from ≤ to → k ≡ to → is_among from (to + 1) k ≡ true
among-last from to k order is = grind (arith, nat_tests)

among-less : (from to k : ℕ) → (k ≡ from → ⊥) → is_among (from + 1) to k ≡ is_among from to k
among-less from to k other = grind (arith, nat_tests)

among-first : (from to k : ℕ) → k ≡ from → is_among (from + 1) to k ≡ false
among-first from to k is = grind (arith, nat_tests)

among-empty : (from k : ℕ) → is_among from from k ≡ false
among-empty from k = grind (arith, nat_tests)

module _ (points : List SweepPoint) (slots : List Slot) (rank : ℕ → ℕ) (places : List (Option Entry)) (are : AreSlots X points slots rank) where
  -- the entry of a point, where it is to be held
  abbrev held : ℕ → ℕ → ℕ → Option Entry
  held from to p = cond (is_among from to (rank p)) (Some (point_at points p).entry) None

  holds-set : (from to from' to' k place : ℕ) (entry : Option Entry) → Holds points rank from to places → k < length slots → place ≡ (slot_at slots k).place
      → (rank place ≡ k → entry ≡ held from' to' place) → ((j : ℕ) → (j ≡ k → ⊥) → is_among from' to' j ≡ is_among from to j)
      → Holds points rank from' to' (set places place entry)
  holds-set from to from' to' k place entry old inside at here others =
      let in-places : place < length places = omega (arith, are.inside k inside, old.count, at) in
      let ranked : rank place ≡ k = ap rank at ∙ are.ranked k inside in
      record {
        count = length-set places place entry ∙ old.count;
        entry = λ p p-inside. ⊎_elim
            (λ same. get_or-set_at places place p entry None same in-places ∙ here ranked ∙ ap (held from' to') (sym same))
            (λ other.
            let another : rank p ≡ k → ⊥ = λ e. other (sym (are.placed p p-inside) ∙ ap (λ n. (slot_at slots n).place) e ∙ sym at) in
            get_or-set_other places place p entry None other ∙ old.entry p p-inside
            ∙ ap (λ b. cond b (Some (point_at points p).entry) None) (sym (others (rank p) another)))
            (cases_eq p place);
      }

  -- the place of the next slot is empty
  pub holds-not : (from to place : ℕ) → Holds points rank from to places → to < length slots → place ≡ (slot_at slots to).place → get_or places place None ≡ None
  holds-not from to place old inside at =
      old.entry place (omega (arith, are.inside to inside, at))
      ∙ ap (λ b. cond b (Some (point_at points place).entry) None) (among-none from to (rank place) (ap rank at ∙ are.ranked to inside))

  pub holds-enter : (from to place : ℕ) (entry : Entry) → Holds points rank from to places → from ≤ to → to < length slots → place ≡ (slot_at slots to).place
      → entry ≡ (point_at points place).entry → Holds points rank from (to + 1) (set places place (Some entry))
  holds-enter from to place entry old order inside at is =
      holds-set from to from (to + 1) to place (Some entry) old inside at
      (λ ranked. ap Some is ∙ ap (λ b. cond b (Some (point_at points place).entry) None) (sym (among-last from to (rank place) order ranked)))
      (λ j other. among-more from to j other)

  pub holds-leave : (from to place : ℕ) → Holds points rank from to places → from < length slots → place ≡ (slot_at slots from).place
      → Holds points rank (from + 1) to (set places place None)
  holds-leave from to place old inside at =
      holds-set from to (from + 1) to from place None old inside at
      (λ ranked. ap (λ b. cond b (Some (point_at points place).entry) None) (sym (among-first from to (rank place) ranked)))
      (λ j other. among-less from to j other)

-- what was read at the number of a slot
pub entrant-read : (layout : Layout) (laid : IsLayout layout) (k : ℕ) (entrant : Entrant) → k < length layout.entrants.items → entrant ≡ get_or layout.entrants.items k entrant
    → (k < length laid.slots) × (entrant ≡ entrant_at layout.ranks.items (groups_of layout) (slot_at laid.slots k))
entrant-read layout laid k entrant inside is =
    let at = entrant_at layout.ranks.items (groups_of layout) in
    let within : k < length laid.slots = omega (arith, inside, ap length laid.entrants, length-map laid.slots at) in
    (within, is ∙ ap (λ l. get_or l k entrant) laid.entrants ∙ get_or-map at laid.slots k _ entrant within)

-- the tree without points
pub holds-none : (points : List SweepPoint) (rank : ℕ → ℕ) (places : List (Option Entry)) → places ≡ replicate (length points) None → Holds points rank 0 0 places
holds-none points rank places is = record {
  count = ap length is ∙ length-replicate (length points) None;
  entry = λ p inside. ap (λ (l : List (Option Entry)). get_or l p None) is ∙ get_or-replicate (length points) p None None inside
      ∙ ap (λ b. cond b (Some (point_at points p).entry) None) (sym (among-empty 0 (rank p)));
}
