-- Where numbers rise, those of a range stand one behind the other.
use Rattle.std.proofs.Common.{◌≡◌, ◌∙◌, ◌<◌, ◌≤◌, ℕ, ℤ, Bool, true, false, not, ◌&&◌, ◌+◌, List, [], ◌∷◌, length, map, get_or, sym, ap, subst, ⊎_elim, arith}
use Rattle.std.proofs.lemmas.Bool.{cases_lt, lt-ltb, le-ltb, le-leb, lt-leb}
use Rattle.std.proofs.lemmas.List.{length-map, get_or-map}
use Rattle.std.specs.List.Sorted.{IsPartitionPoint, IsSortedByKey}
use Rattle.std.specs.Ordering.{int_cmp, is_lt}
use Rattle.std.specs.Prelude.{int_le, int_lt, nat_le, nat_lt}
use Rattle.sgl_values.specs.Range.{is_between}
use Rattle.rank_table.specs.Ranks.{IsRising, count_below, count_through}
use Rattle.rank_table.proofs.Ranking.{bounded, parted_below, parted_through, IsRising-sorted}
use Rattle.extreme_sweep.specs.Slots.{IsRange}
use Rattle.extreme_sweep.proofs.Ints.{le-not-lt}

module _ (items : List ℤ) (a b : ℤ) (low high : ℕ)
    (begin : IsPartitionPoint (λ item. int_lt item a ≡ true) (λ item. int_lt item a ≡ false) items low)
    (end : IsPartitionPoint (λ item. int_le item b ≡ true) (λ item. int_le item b ≡ false) items high) where
  begun : (k : ℕ) (d : ℤ) → k < length items → int_le a (get_or items k d) ≡ nat_le low k
  begun k d inside = le-not-lt a (get_or items k d) ∙ ⊎_elim
      (λ before. ap not (begin.0 k d (omega arith) before) ∙ sym (lt-leb low k before))
      (λ behind. ap not (begin.1 k d behind inside) ∙ sym (le-leb low k behind))
      (cases_lt k low)

  ended : (k : ℕ) (d : ℤ) → k < length items → int_le (get_or items k d) b ≡ nat_lt k high
  ended k d inside = ⊎_elim
      (λ before. end.0 k d (omega arith) before ∙ sym (lt-ltb k high before))
      (λ behind. end.1 k d behind inside ∙ sym (le-ltb k high behind))
      (cases_lt k high)

  range-from_points : high ≤ length items → IsRange (is_between a b) items low high
  range-from_points bound = record {
    bound = bound;
    passes = λ k d inside i. begun k d inside i && ended k d inside i;
  }

-- ranks bound the range
pub range-of_ranks : (items : List ℤ) (a b : ℤ) → IsRising items → IsRange (is_between a b) items (count_below a items) (count_through b items)
range-of_ranks items a b rising =
    range-from_points items a b (count_below a items) (count_through b items) (parted_below a items rising) (parted_through b items rising) (bounded (λ z. int_le z b) items)

pub IsRange-same : {A : Type 0} (test : A → Bool) (items : List A) (low low' high high' : ℕ) → low ≡ low' → high ≡ high' → IsRange test items low high → IsRange test items low' high'
IsRange-same test items low low' high high' begin end range = subst (λ n. IsRange test items n high') begin (subst (λ n. IsRange test items low n) end range)

module _ {A : Type 0} (number : A → ℤ) where
  -- the numbers of items that rise by them
  rise-map : (xs : List A) → IsSortedByKey number int_cmp xs → IsSortedByKey (λ y. y) int_cmp (map number xs)
  rise-map [] rising k d low high = absurd (omega arith)
  rise-map (x ∷ xs) rising k d low high =
      let size : length (map number (x ∷ xs)) ≡ length (x ∷ xs) = length-map (x ∷ xs) number in
      let here = get_or-map number (x ∷ xs) k x d (omega (arith, size)) in
      let next = get_or-map number (x ∷ xs) (k + 1) x d (omega (arith, size)) in
      (λ i. is_lt (int_cmp (next i) (here i))) ∙ rising k x low (omega (arith, size))

  pub IsRising-map : (xs : List A) → IsSortedByKey number int_cmp xs → IsRising (map number xs)
  IsRising-map xs rising = IsRising-sorted (map number xs) (rise-map xs rising)

  -- a range of numbers as one of the items that have them
  pub range-unmap : (test : ℤ → Bool) (xs : List A) (ys : List ℤ) (low high : ℕ) → ys ≡ map number xs → IsRange test ys low high → IsRange (λ x. test (number x)) xs low high
  range-unmap test xs ys low high are range =
      let size : length ys ≡ length xs = ap length are ∙ length-map xs number in
      record {
        bound = omega (arith, size, range.bound);
        passes = λ k d inside.
            let at : get_or ys k (number d) ≡ number (get_or xs k d) = ap (λ l. get_or l k (number d)) are ∙ get_or-map number xs k d (number d) inside in
            ap test (sym at) ∙ range.passes k (number d) (omega (arith, size));
      }
