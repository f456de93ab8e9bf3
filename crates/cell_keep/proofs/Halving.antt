-- The point with a key, found by halving.
use Rattle.std.proofs.Common.{◌≡◌, ◌∙◌, ◌<◌, ◌≤◌, ℕ, zero, suc, Bool, true, false, cond, eqb, eq-eqb, List, [], ◌∷◌, Some, None, Result, Ok, Err, map, length, get_or, refl, sym, ap, arith}
use Rattle.std.specs.Prelude.{find, MatchResult}
use Rattle.std.specs.List.Sorted.{IsBinarySearchResult, IsNonDecreasingBy, IsSearchInRange}
use Rattle.std.specs.Ordering.{nat_cmp, ordering_index}
use Rattle.std.specs.Option.{option_map}
use Rattle.std.proofs.lemmas.Bool.{ne_eqb}
use Rattle.std.proofs.lemmas.Bool.Decides.{nat_tests}
use Rattle.std.proofs.lemmas.Cmp.{ranked}
use Rattle.std.proofs.lemmas.List.{get_or-map, length-map}
use Rattle.cell_keep.specs.declared.point.KeepPoint.{KeepPoint}
use Rattle.cell_keep.specs.Grid.{cell_of, cell_with}
use Rattle.cell_keep.specs.Kept.{KeysRise}
use Rattle.cell_keep.specs.Rows.{no_point}

find_first : (test : KeepPoint → Bool) (points : List KeepPoint) (i : ℕ) (d : KeepPoint) → i < length points → test (get_or points i d) ≡ true
    → ((j : ℕ) → j < i → test (get_or points j d) ≡ false) → find test points ≡ Some (get_or points i d)
find_first test [] i d inside passes others = absurd (omega (arith, inside))
find_first test (x ∷ xs) zero d inside passes others = ap (λ (b : Bool). cond b (Some x) (find test xs)) passes
find_first test (x ∷ xs) (suc i) d inside passes others =
    ap (λ (b : Bool). cond b (Some x) (find test xs)) (others 0 (omega arith))
    ∙ find_first test xs i d (omega (arith, inside)) passes (λ j below. others (suc j) (omega (arith, below)))

find_none : (test : KeepPoint → Bool) (points : List KeepPoint) (d : KeepPoint) → ((j : ℕ) → j < length points → test (get_or points j d) ≡ false) → find test points ≡ None
find_none test [] d others = refl
find_none test (x ∷ xs) d others =
    ap (λ (b : Bool). cond b (Some x) (find test xs)) (others 0 (omega arith)) ∙ find_none test xs d (λ j below. others (suc j) (omega (arith, below)))

module _ (f : ℕ → KeepPoint) (order : List ℕ) (rising : KeysRise (map f order)) (key : ℕ) where
  abbrev key_at : ℕ → ℕ
  key_at i = (get_or (map f order) i no_point).key

  -- the key at a place is that of the row there
  nth_key : (i d : ℕ) → i < length order → key_at i ≡ (f (get_or order i d)).key
  nth_key i d below = ap (λ (point : KeepPoint). point.key) (get_or-map f order i d no_point below)

  -- the comparisons with the key rise along the order
  comparisons_rise : IsNonDecreasingBy (λ (row : ℕ). ordering_index (nat_cmp (f row).key key)) order
  comparisons_rise i j d le in_range =
      let keys_rise : (f (get_or order i d)).key ≤ (f (get_or order j d)).key =
      grind (
        arith,
        λ (less : i < j). rising i j no_point less (omega (arith, in_range, length-map order f)),
        λ (same : i ≡ j). ap (λ (k : ℕ). (f (get_or order k d)).key) same,
        nth_key i d (omega (arith, le, in_range)),
        nth_key j d in_range,
      ) in
      grind (arith, nat_tests)

  at_key : (i : ℕ) → i < length order → key_at i ≡ key → cell_with key (map f order) ≡ Some (cell_of (get_or (map f order) i no_point))
  at_key i inside has =
      ap (option_map cell_of) (find_first (λ (point : KeepPoint). eqb point.key key) (map f order) i no_point (omega (arith, inside, length-map order f)) (eq-eqb (key_at i) key has)
      (λ j below. ne_eqb (key_at j) key (λ same. omega (arith, rising j i no_point below (omega (arith, inside, length-map order f)), same, has))))

  -- what halving tells
  pub searched : (r : Result ℕ ℕ) → IsSearchInRange r (length order) → IsBinarySearchResult (λ (row : ℕ). nat_cmp (f row).key key) order r
      → MatchResult r (λ i. (i < length order) × (cell_with key (map f order) ≡ Some (cell_of (get_or (map f order) i no_point)))) (λ _. cell_with key (map f order) ≡ None)
  searched (Ok i) in_range equal = (in_range, at_key i in_range (nth_key i 0 in_range ∙ ranked _ key _ (sym (equal 0))))
  searched (Err i) in_range parted =
      ap (option_map cell_of) (find_none (λ (point : KeepPoint). eqb point.key key) (map f order) no_point (λ j within. ne_eqb (key_at j) key (λ same.
      let below : j < length order = omega (arith, within, length-map order f) in
      let before = λ (lt : j < i). ranked _ key _ (sym ((parted comparisons_rise).0 j 0 (omega arith) lt)) in
      let after = λ (le : i ≤ j). ranked _ key _ (sym ((parted comparisons_rise).1 j 0 le below)) in
      grind (arith, before, after, same, nth_key j 0 below))))
