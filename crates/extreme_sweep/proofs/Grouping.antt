-- Groups place by place, and the ranks that stand there.
use Rattle.std.proofs.Common.{◌≡◌, ◌∙◌, ◌+◌, ◌-◌, ◌<◌, ◌≤◌, ℕ, ℤ, pos, List, length, get_or, set, drop, replicate, sym, ap, arith, ⊎_elim, get_or-set_other}
use Rattle.std.proofs.lemmas.Bool.{cases_eq}
use Rattle.std.proofs.lemmas.Grind.{get_or-set_at}
use Rattle.std.proofs.lemmas.List.{get_or-drop, get_or-replicate, get_or-take, length-drop, length-replicate, length-set, length-take}
use Rattle.std.specs.Prelude.{slice_range}
use Rattle.extreme_sweep.specs.Ranks.{no_rank, rank_entry, placed_entry, ArePlaced, CanEnter}
use Rattle.extreme_sweep.proofs.Packing.{no-entry, placed-there}

-- no rank stands anywhere
pub placed-none : (groups by_place : List ℤ) (n : ℕ) → length groups ≤ no_rank → length by_place ≡ n → ArePlaced groups by_place (replicate n no_rank)
placed-none groups by_place n few size = record {
  count = size ∙ sym (length-replicate n no_rank);
  each = λ place below.
      let here : get_or (replicate n no_rank) place 0 ≡ no_rank = get_or-replicate n place no_rank 0 (omega (arith, below, length-replicate n no_rank)) in
      ap (rank_entry groups) here ∙ no-entry groups no_rank few ∙ ap (placed_entry (get_or by_place place (pos 0))) (sym here);
}

-- a rank that can enter
pub entry-placed : (groups by_place : List ℤ) (places : List ℕ) (place rank : ℕ) (group : ℤ) → rank < no_rank → CanEnter groups by_place places place rank group
    → rank_entry groups rank ≡ placed_entry (get_or by_place place (pos 0)) rank
entry-placed groups by_place places place rank group inside can = can.entry ∙ sym (placed-there group rank inside) ∙ ap (λ g. placed_entry g rank) (sym can.at)

module _ (groups by_place : List ℤ) (places : List ℕ) (old : ArePlaced groups by_place places) where
  -- a rank is put at a place
  pub placed-set : (place rank : ℕ) → place < length places → rank_entry groups rank ≡ placed_entry (get_or by_place place (pos 0)) rank
      → ArePlaced groups by_place (set places place rank)
  placed-set place rank inside is = record {
    count = old.count ∙ sym (length-set places place rank);
    each = λ p below. ⊎_elim
        (λ same.
        let here : get_or (set places place rank) p 0 ≡ rank = get_or-set_at places place p rank 0 same inside in
        ap (rank_entry groups) here ∙ is ∙ (λ i. placed_entry (get_or by_place (sym same i) (pos 0)) (sym here i)))
        (λ other.
        let there : get_or (set places place rank) p 0 ≡ get_or places p 0 = get_or-set_other places place p rank 0 other in
        ap (rank_entry groups) there ∙ old.each p (omega (arith, below, length-set places place rank)) ∙ ap (placed_entry (get_or by_place p (pos 0))) (sym there))
        (cases_eq p place);
  }

  -- a place is emptied
  pub placed-left : (place : ℕ) → place < length places → length groups ≤ no_rank → ArePlaced groups by_place (set places place no_rank)
  placed-left place inside few = placed-set place no_rank inside (no-entry groups no_rank few)

  -- some of the places
  pub placed-part : (low high : ℕ) → low ≤ high → high ≤ length places → ArePlaced groups (slice_range by_place low high) (slice_range places low high)
  placed-part low high order inside =
      let some-places : length (slice_range places low high) ≡ high - low = omega (arith, inside, length-take (high - low) (drop low places), length-drop low places) in
      let some-groups : length (slice_range by_place low high) ≡ high - low = omega (arith, inside, old.count, length-take (high - low) (drop low by_place), length-drop low by_place) in
      record {
        count = some-groups ∙ sym some-places;
        each = λ p below.
            let near : p < high - low = omega (arith, below, some-places) in
            let rank : get_or (slice_range places low high) p 0 ≡ get_or places (low + p) 0 = get_or-take (high - low) (drop low places) p 0 near ∙ get_or-drop low places p 0 in
            let group : get_or (slice_range by_place low high) p (pos 0) ≡ get_or by_place (low + p) (pos 0) =
            get_or-take (high - low) (drop low by_place) p (pos 0) near ∙ get_or-drop low by_place p (pos 0) in
            ap (rank_entry groups) rank ∙ old.each (low + p) (omega (arith, near, inside)) ∙ (λ i. placed_entry (sym group i) (sym rank i));
      }
