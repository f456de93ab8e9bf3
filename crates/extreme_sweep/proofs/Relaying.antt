-- Slots by rank are those of the points at their places.
use Rattle.std.proofs.Common.{◌≡◌, ◌≢◌, ℕ, ℤ, pos, ◌+◌, ◌<◌, List, map, length, get_or, inl, inr, ap, sym, ◌∙◌, arith}
use Rattle.std.specs.Prelude.{slice_set}
use Rattle.std.proofs.lemmas.Bool.{cases_lt}
use Rattle.std.proofs.lemmas.List.{get_or-map, get_or-set_other, get_or-set_same, length-map, same_lists}
use Rattle.std.proofs.lemmas.Simd.{map-map}
use Rattle.extreme_sweep.specs.declared.axis.Axis.TheVariants.{X, Y}
use Rattle.extreme_sweep.specs.declared.placing.Entrant.{Entrant}
use Rattle.extreme_sweep.specs.declared.window.SweepPoint.{SweepPoint}
use Rattle.extreme_sweep.specs.Laying.{entrant_at, entrant_of, placed_by, AreNumbered, IsInverse}
use Rattle.extreme_sweep.specs.Ranking.{points_of}
use Rattle.extreme_sweep.specs.Slots.{coordinate, point_at, slot_at, Slot, AreSlots}

-- ---- the places of ranks

-- one rank more has its place
pub placed_more : (places ranks : List ℕ) (place rank : ℕ) (number : ℕ → ℕ) → AreNumbered number ranks → place < length ranks → rank < length places
    → ((d : ℕ) → get_or ranks place d ≡ rank) → ((p d e : ℕ) → p < place → get_or places (get_or ranks p d) e ≡ p)
    → (p d e : ℕ) → p < place + 1 → get_or (slice_set places rank place) (get_or ranks p d) e ≡ p
placed_more places ranks place rank number numbered inside within is before p d e below = elim (cases_lt p place) [
  | inl lt ↦
      let other : get_or ranks p d ≢ rank = λ same. apart lt (sym (numbered p d (omega (arith, lt, inside))) ∙ ap number (same ∙ sym (is d)) ∙ numbered place d inside) in
      get_or-set_other places rank (get_or ranks p d) place e other ∙ before p d e lt
  | inr le ↦
      let last : p ≡ place = omega (arith, le, below) in
      ap (λ (k : ℕ). get_or (slice_set places rank place) (get_or ranks k d) e) last
      ∙ ap (λ (r : ℕ). get_or (slice_set places rank place) r e) (is d)
      ∙ get_or-set_same places rank place e within
      ∙ sym last
]
  where
    apart : p < place → ¬ (p ≡ place)
    apart lt same = omega (arith, lt, same)

-- ---- the slots

module _ (ranked : List SweepPoint) (heights : List Slot) (ranks places : List ℕ) (height : ℕ → ℕ) (are : AreSlots Y ranked heights height)
    (ranks_are : ranks ≡ map (λ (s : Slot). s.place) heights) where
  ranks-all : length ranks ≡ length ranked
  ranks-all = ap length ranks_are ∙ length-map heights (λ (s : Slot). s.place) ∙ are.count

  rank-at : (p d : ℕ) → p < length ranked → get_or ranks p d ≡ (slot_at heights p).place
  rank-at p d inside =
      ap (λ (l : List ℕ). get_or l p d) ranks_are ∙ get_or-map (λ (s : Slot). s.place) heights p _ d (omega (arith, inside, are.count))

  pub ranks_numbered : AreNumbered height ranks
  ranks_numbered p d inside =
      ap height (rank-at p d (omega (arith, inside, ranks-all))) ∙ are.ranked p (omega (arith, inside, ranks-all, are.count))

  module _ (inverse : IsInverse places ranks) where
    -- the rank at the height of a rank is that rank
    rank-of : (rank d : ℕ) → rank < length ranked → get_or ranks (height rank) d ≡ rank
    rank-of rank d inside =
        rank-at (height rank) d (omega (arith, are.rank_inside rank inside, are.count)) ∙ are.placed rank inside

    -- so its place is its height
    place-of : (rank : ℕ) → rank < length ranked → get_or places rank 0 ≡ height rank
    place-of rank inside =
        ap (λ (r : ℕ). get_or places r 0) (sym (rank-of rank 0 inside))
        ∙ inverse (height rank) 0 0 (omega (arith, are.rank_inside rank inside, are.count, ranks-all))

    module _ (slots : List Slot) (column : ℕ → ℕ) (along : AreSlots X ranked slots column) where
      abbrev moved : List Slot
      moved = map (placed_by places) slots

      points-all : length (points_of ranked ranks) ≡ length ranked
      points-all = length-map ranks (λ (rank : ℕ). point_at ranked rank) ∙ ranks-all

      moved-all : length moved ≡ length slots
      moved-all = length-map slots (placed_by places)

      moved-at : (k : ℕ) → k < length slots → slot_at moved k ≡ placed_by places (slot_at slots k)
      moved-at k inside = get_or-map (placed_by places) slots k _ _ inside

      place-at : (k : ℕ) → k < length slots → (slot_at moved k).place ≡ height (slot_at slots k).place
      place-at k inside = ap (λ (s : Slot). s.place) (moved-at k inside) ∙ place-of (slot_at slots k).place (along.inside k inside)

      -- the point at the height of a rank is that with the rank
      point-of : (rank : ℕ) → rank < length ranked → point_at (points_of ranked ranks) (height rank) ≡ point_at ranked rank
      point-of rank inside =
          get_or-map (λ (r : ℕ). point_at ranked r) ranks (height rank) 0 _ (omega (arith, are.rank_inside rank inside, are.count, ranks-all))
          ∙ ap (point_at ranked) (rank-of rank 0 inside)

      pub slots_relaid : AreSlots X (points_of ranked ranks) moved (λ p. column (get_or ranks p 0))
      slots_relaid = record {
        count = moved-all ∙ along.count ∙ sym points-all;
        inside = λ k below.
            let inside : k < length slots = omega (arith, below, moved-all) in
            omega (arith, place-at k inside, are.rank_inside (slot_at slots k).place (along.inside k inside), are.count, points-all);
        along = λ k below.
            let inside : k < length slots = omega (arith, below, moved-all) in
            let rank = (slot_at slots k).place in
            ap (λ (s : Slot). s.coordinate) (moved-at k inside) ∙ along.along k inside
            ∙ ap (coordinate X) (sym (point-of rank (along.inside k inside)) ∙ ap (point_at (points_of ranked ranks)) (sym (place-at k inside)));
        ranked = λ k below.
            let inside : k < length slots = omega (arith, below, moved-all) in
            let rank = (slot_at slots k).place in
            ap (λ (p : ℕ). column (get_or ranks p 0)) (place-at k inside) ∙ ap column (rank-of rank 0 (along.inside k inside)) ∙ along.ranked k inside;
        rank_inside = λ p below.
            let inside : p < length ranked = omega (arith, below, points-all) in
            let held : (slot_at heights p).place < length ranked = are.inside p (omega (arith, inside, are.count)) in
            omega (arith, along.rank_inside (get_or ranks p 0) (omega (arith, held, rank-at p 0 inside)), moved-all);
        placed = λ p below.
            let inside : p < length ranked = omega (arith, below, points-all) in
            let held : (slot_at heights p).place < length ranked = are.inside p (omega (arith, inside, are.count)) in
            let rank = get_or ranks p 0 in
            let fits : rank < length ranked = omega (arith, held, rank-at p 0 inside) in
            place-at (column rank) (along.rank_inside rank fits) ∙ ap height (along.placed rank fits) ∙ ranks_numbered p 0 (omega (arith, inside, ranks-all));
      }

      -- a rank that enters stands at its place
      entering : (groups : List ℤ) (slot : Slot) → slot.place < length ranked → entrant_of places groups slot.place ≡ entrant_at ranks groups (placed_by places slot)
      entering groups slot inside =
          let same : slot.place ≡ get_or ranks (get_or places slot.place 0) 0 = sym (ap (λ p. get_or ranks p 0) (place-of slot.place inside) ∙ rank-of slot.place 0 inside) in
          (λ i. record { place = get_or places slot.place 0; rank = same i; group = get_or groups (same i) (pos 0) })

      pub entrants_relaid : (groups : List ℤ) → map (entrant_of places groups) (map (λ (s : Slot). s.place) slots) ≡ map (entrant_at ranks groups) moved
      entrants_relaid groups =
          let of : Slot → Entrant = λ slot. entrant_of places groups slot.place in
          let at : Slot → Entrant = λ slot. entrant_at ranks groups (placed_by places slot) in
          map-map (entrant_of places groups) (λ (s : Slot). s.place) slots
          ∙ same_lists (map of slots) (map at slots) (length-map slots of ∙ sym (length-map slots at))
          (λ k d below.
          let inside : k < length slots = omega (arith, below, length-map slots of) in
          get_or-map of slots k _ d inside ∙ entering groups (slot_at slots k) (along.inside k inside) ∙ sym (get_or-map at slots k _ d inside))
          ∙ sym (map-map (entrant_at ranks groups) (placed_by places) slots)
