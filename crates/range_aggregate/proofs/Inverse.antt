-- The ranks of places, put where the places of all ranks tell.
use Rattle.std.proofs.Common.{◌≡◌, ◌∙◌, ℕ, ◌+◌, ◌<◌, false, List, length, get_or, set, inl, inr, sym, ap, subst, arith}
use Rattle.std.specs.List.{All, Contains, range_with_len}
use Rattle.std.specs.List.Sorted.{IsPermutation}
use Rattle.std.proofs.Math.Dec.{eqb}
use Rattle.std.proofs.lemmas.Bool.{cases_lt, eqb-false, ne_eqb}
use Rattle.std.proofs.lemmas.Bool.Decides.{nat_tests}
use Rattle.std.proofs.lemmas.List.{get_or-set_other, get_or-set_same, get_or_default}
use Rattle.std.proofs.lemmas.List.Elements.{Contains-get_or}
use Rattle.std.proofs.lemmas.List.FromFn.{length-range_with_len, get_or-range_with_len}
use Rattle.std.proofs.lemmas.List.Sorted.{Contains-permutation}
use Rattle.std.proofs.lemmas.Map.Keys.{IsDistinct-IsPermutation, IsDistinct-from_apart, apart_from_distinct}
use Rattle.rank_table.proofs.Ordering.{places-inside}
use Rattle.range_aggregate.specs.Rows.{AreInverse}

-- each rank is less than there are places
pub ranks_within : (ranks places : List ℕ) → AreInverse ranks places → All (λ rank. rank < length ranks) ranks
ranks_within ranks places inverse = λ place d below. omega (arith, inverse.rank_within place below, get_or_default ranks place d 0 below)

flipped : (a b : ℕ) → eqb a b ≡ eqb b a
flipped a b = grind (arith, nat_tests)

range_apart : (n i j d : ℕ) → i < j → j < length (range_with_len 0 n) → eqb (get_or (range_with_len 0 n) i d) (get_or (range_with_len 0 n) j d) ≡ false
range_apart n i j d less below =
    let long : j < n = omega (arith, below, length-range_with_len 0 n) in
    let first = get_or-range_with_len 0 n i d (omega (arith, less, long)) in
    let second = get_or-range_with_len 0 n j d long in
    ne_eqb (get_or (range_with_len 0 n) i d) (get_or (range_with_len 0 n) j d) (λ same. absurd (omega (arith, less, first, second, same)))

module _ (places : List ℕ) (all : IsPermutation (range_with_len 0 (length places)) places) where
  pub inside : (k : ℕ) → k < length places → get_or places k 0 < length places
  inside k below = places-inside (length places) places all k 0 below

  pub differ : (i j : ℕ) → i < j → j < length places → get_or places i 0 ≡ get_or places j 0 → ⊥
  differ i j less below =
      eqb-false (get_or places i 0) (get_or places j 0)
      (apart_from_distinct eqb places i j 0
      (IsDistinct-IsPermutation eqb flipped (range_with_len 0 (length places)) places all
      (IsDistinct-from_apart eqb (range_with_len 0 (length places)) (range_apart (length places)))) less below)

  -- one rank more
  pub rank_more : (ranks : List ℕ) (number : ℕ) → length ranks ≡ length places → number < length places
      → ((k : ℕ) → k < number → get_or ranks (get_or places k 0) 0 ≡ k)
      → (k : ℕ) → k < number + 1 → get_or (set ranks (get_or places number 0) number) (get_or places k 0) 0 ≡ k
  rank_more ranks number long below before k at = elim (cases_lt k number) [
    | inl lt ↦ get_or-set_other ranks (get_or places number 0) (get_or places k 0) number 0 (differ k number lt below) ∙ before k lt
    | inr le ↦
        let same : k ≡ number = omega (arith, at, le) in
        ap (λ j. get_or (set ranks (get_or places number 0) number) (get_or places j 0) 0) same
        ∙ get_or-set_same ranks (get_or places number 0) number 0 (omega (arith, long, inside number below)) ∙ sym same
  ]

  -- the rank that has a place
  there : (place : ℕ) → place < length places → Contains places place
  there place below =
      Contains-permutation (range_with_len 0 (length places)) places place all
      (subst (Contains (range_with_len 0 (length places))) (get_or-range_with_len 0 (length places) place 0 below ∙ omega arith)
      (Contains-get_or (range_with_len 0 (length places)) place 0 (omega (arith, below, length-range_with_len 0 (length places)))))

  pub AreInverse-told : (ranks : List ℕ) → length ranks ≡ length places → ((k : ℕ) → k < length places → get_or ranks (get_or places k 0) 0 ≡ k) → AreInverse ranks places
  AreInverse-told ranks long each =
      let is : (place : ℕ) (below : place < length places) → get_or places (there place below).0 0 ≡ place =
      λ place below. get_or_default places (there place below).0 0 place (there place below).1 ∙ (there place below).2 in
      let rank : (place : ℕ) (below : place < length places) → get_or ranks place 0 ≡ (there place below).0 =
      λ place below. ap (λ p. get_or ranks p 0) (sym (is place below)) ∙ each (there place below).0 (there place below).1 in
      record {
        long = sym long;
        rank_within = λ place below. let low : place < length places = omega (arith, below, long) in omega (arith, long, rank place low, (there place low).1);
        place_within = λ k below. let low : k < length places = omega (arith, below, long) in omega (arith, long, inside k low);
        rank_is = λ k below. each k (omega (arith, below, long));
        place_is = λ place below. let low : place < length places = omega (arith, below, long) in ap (λ r. get_or places r 0) (rank place low) ∙ is place low;
      }
