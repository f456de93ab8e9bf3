-- Ranks as counts: where a list is parted by a test, and what two tests tell of each other.
use Rattle.std.proofs.Common.{◌≡◌, ℕ, ℤ, ◌+◌, ◌<◌, ◌≤◌, ◌≤ℤ◌, ◌<ℤ◌, zero, suc, Bool, true, false, cond, int_lt, int_le, List, [], ◌∷◌, ◌++◌, length, get_or, map, take, drop, refl, sym, ap, subst, ◌∙◌, arith}
use Rattle.std.specs.Prelude.{filter, ◌↔◌}
use Rattle.std.specs.List.{All, AllWithin, Contains}
use Rattle.std.specs.Cmp.{int_cmp_total}
use Rattle.std.specs.List.Sorted.{IsPartitionPoint, IsPartitionedBy, IsSorted, IsSortedByKey}
use Rattle.std.specs.Ordering.{is_lt, int_cmp}
use Rattle.std.proofs.lemmas.List.Sorted.{sorted_far, ranks_by}
use Rattle.std.proofs.lemmas.Int.{ints, by_lt_z}
use Rattle.std.proofs.lemmas.List.{take-append-drop, length-map, length-take, length-drop, get_or-map, get_or-take, get_or-drop, append-nil}
use Rattle.std.proofs.lemmas.List.Elements.{All-head, All-tail, filter-append}
use Rattle.rank_table.specs.Ranks.{IsRising, count_below, count_through}

fails_by : (b : Bool) → (b ≡ true → true ≡ false) → b ≡ false
fails_by true clash = clash refl
fails_by false clash = refl

module _ {A : Type 0} where
  pub filter_none : (p : A → Bool) (xs : List A) → All (λ x. p x ≡ false) xs → filter p xs ≡ []
  filter_none p [] all = refl
  filter_none p (x ∷ xs) all =
      ap (λ b. cond b (x ∷ filter p xs) (filter p xs)) (All-head (λ x. p x ≡ false) x xs all) ∙ filter_none p xs (All-tail (λ x. p x ≡ false) x xs all)

  pub filter_all : (p : A → Bool) (xs : List A) → All (λ x. p x ≡ true) xs → filter p xs ≡ xs
  filter_all p [] all = refl
  filter_all p (x ∷ xs) all =
      ap (λ b. cond b (x ∷ filter p xs) (filter p xs)) (All-head (λ x. p x ≡ true) x xs all) ∙ ap (λ l. x ∷ l) (filter_all p xs (All-tail (λ x. p x ≡ true) x xs all))

  -- a filter keeps the front of a list that the test parts
  pub filter_front : (p : A → Bool) (xs : List A) (i : ℕ) → i ≤ length xs → IsPartitionPoint (λ x. p x ≡ true) (λ x. p x ≡ false) xs i → filter p xs ≡ take i xs
  filter_front p xs i bound parted =
      let front : filter p (take i xs) ≡ take i xs =
      filter_all p (take i xs) (λ k d below. let lt : k < i = omega (arith, length-take i xs, below) in ap p (get_or-take i xs k d lt) ∙ parted.0 k d (omega arith) lt) in
      let back : filter p (drop i xs) ≡ [] =
      filter_none p (drop i xs) (λ k d below. ap p (get_or-drop i xs k d) ∙ parted.1 (i + k) d (omega arith) (omega (arith, length-drop i xs, below))) in
      ap (filter p) (sym (take-append-drop i xs))
      ∙ filter-append p (take i xs) (drop i xs)
      ∙ ap (λ l. l ++ filter p (drop i xs)) front
      ∙ ap (λ l. take i xs ++ l) back
      ∙ append-nil (take i xs)

  -- and so many elements pass
  pub count_front : (p : A → Bool) (xs : List A) (i : ℕ) → i ≤ length xs → IsPartitionPoint (λ x. p x ≡ true) (λ x. p x ≡ false) xs i → length (filter p xs) ≡ i
  count_front p xs i bound parted = ap length (filter_front p xs i bound parted) ∙ omega (arith, length-take i xs)

  first_and : (p : A → Bool) (x : A) (xs : List A) (n : ℕ) → p x ≡ true → AllWithin (λ y. p y ≡ true) xs 0 n → AllWithin (λ y. p y ≡ true) (x ∷ xs) 0 (suc n)
  first_and p x xs n here rest zero d low high = here
  first_and p x xs n here rest (suc k) d low high = rest k d (omega arith) (omega (arith, high))

  behind_first : (p : A → Bool) (x : A) (xs : List A) (n : ℕ) → AllWithin (λ y. p y ≡ false) xs n (length xs) → AllWithin (λ y. p y ≡ false) (x ∷ xs) (suc n) (length (x ∷ xs))
  behind_first p x xs n rest zero d low high = absurd (omega (arith, low))
  behind_first p x xs n rest (suc k) d low high = rest k d (omega (arith, low)) (omega (arith, high))

  -- behind an element that fails all fail
  all_fail : (p : A → Bool) (x : A) (xs : List A) → p x ≡ false → IsPartitionedBy p (x ∷ xs) → AllWithin (λ y. p y ≡ false) (x ∷ xs) 0 (length (x ∷ xs))
  all_fail p x xs here at k d low high = fails_by (p (get_or (x ∷ xs) k d)) (λ passes. sym (at 0 k d (omega arith) high passes) ∙ here)

  fails_on : (p : A → Bool) (x : A) (xs : List A) → p x ≡ false → IsPartitionedBy p (x ∷ xs) → All (λ y. p y ≡ false) xs
  fails_on p x xs here at k d below = all_fail p x xs here at (suc k) d (omega arith) (omega (arith, below))

  -- what is parted by a test at all is parted where so many pass
  parted_head : (p : A → Bool) (x : A) (xs : List A) (b : Bool) → p x ≡ b → IsPartitionedBy p (x ∷ xs)
      → IsPartitionPoint (λ y. p y ≡ true) (λ y. p y ≡ false) xs (length (filter p xs))
      → IsPartitionPoint (λ y. p y ≡ true) (λ y. p y ≡ false) (x ∷ xs) (length (cond b (x ∷ filter p xs) (filter p xs)))
  parted_head p x xs true here parted rest = (first_and p x xs (length (filter p xs)) here rest.0, behind_first p x xs (length (filter p xs)) rest.1)
  parted_head p x xs false here parted rest =
      let none : filter p xs ≡ [] = filter_none p xs (fails_on p x xs here parted) in
      subst (λ l. IsPartitionPoint (λ y. p y ≡ true) (λ y. p y ≡ false) (x ∷ xs) (length l)) (sym none)
      (λ k d low high. absurd (omega (arith, low, high)), all_fail p x xs here parted)

  pub parted : (p : A → Bool) (xs : List A) → IsPartitionedBy p xs → IsPartitionPoint (λ x. p x ≡ true) (λ x. p x ≡ false) xs (length (filter p xs))
  parted p [] at = (λ k d low high. absurd (omega (arith, low, high)), λ k d low high. absurd (omega (arith, low, high)))
  parted p (x ∷ xs) at = parted_head p x xs (p x) refl at (parted p xs (λ i j d order below passes. at (suc i) (suc j) d (omega (arith, order)) (omega (arith, below)) passes))

  -- ---- two tests, of which the second passes whatever the first does

  keeps_le : (b c : Bool) (x : A) (xs ys : List A) → (b ≡ true → c ≡ true) → length xs ≤ length ys → length (cond b (x ∷ xs) xs) ≤ length (cond c (x ∷ ys) ys)
  keeps_le true true x xs ys passes le = omega (arith, le)
  keeps_le true false x xs ys passes le = let clash : false ≡ true = passes refl in cc
  keeps_le false true x xs ys passes le = omega (arith, le)
  keeps_le false false x xs ys passes le = le

  keeps_lt : (b c : Bool) (x : A) (xs ys : List A) → (b ≡ true → c ≡ true) → length xs < length ys → length (cond b (x ∷ xs) xs) < length (cond c (x ∷ ys) ys)
  keeps_lt true true x xs ys passes lt = omega (arith, lt)
  keeps_lt true false x xs ys passes lt = let clash : false ≡ true = passes refl in cc
  keeps_lt false true x xs ys passes lt = omega (arith, lt)
  keeps_lt false false x xs ys passes lt = lt

  one_more : (b c : Bool) (x : A) (xs ys : List A) → b ≡ false → c ≡ true → length xs ≤ length ys → length (cond b (x ∷ xs) xs) < length (cond c (x ∷ ys) ys)
  one_more b c x xs ys fails passes le =
      subst (λ t. length (cond t (x ∷ xs) xs) < length (cond c (x ∷ ys) ys)) (sym fails)
      (subst (λ t. length xs < length (cond t (x ∷ ys) ys)) (sym passes) (omega (arith, le)))

  module _ (p q : A → Bool) (passes : (x : A) → p x ≡ true → q x ≡ true) where
    pub count_le : (xs : List A) → length (filter p xs) ≤ length (filter q xs)
    count_le [] = omega arith
    count_le (x ∷ xs) = keeps_le (p x) (q x) x (filter p xs) (filter q xs) (passes x) (count_le xs)

    -- fewer pass the first, where some element passes the second alone
    pub count_lt : (xs : List A) (k : ℕ) (d : A) → k < length xs → p (get_or xs k d) ≡ false → q (get_or xs k d) ≡ true → length (filter p xs) < length (filter q xs)
    count_lt [] k d below fails more = absurd (omega (arith, below))
    count_lt (x ∷ xs) zero d below fails more = one_more (p x) (q x) x (filter p xs) (filter q xs) fails more (count_le xs)
    count_lt (x ∷ xs) (suc k) d below fails more = keeps_lt (p x) (q x) x (filter p xs) (filter q xs) (passes x) (count_lt xs k d (omega (arith, below)) fails more)

-- ---- numbers and bounds

lt_lt : (low high z : ℤ) → low ≤ℤ high → int_lt z low ≡ true → int_lt z high ≡ true
lt_lt low high z rise below = grind (arith, ints)

le_le : (low high z : ℤ) → low ≤ℤ high → int_le z low ≡ true → int_le z high ≡ true
le_le low high z rise below = grind (arith, ints)

lt_le : (number high z : ℤ) → number ≤ℤ high → int_lt z number ≡ true → int_le z high ≡ true
lt_le number high z rise below = grind (arith, ints)

le_lt : (number high z : ℤ) → int_lt high number ≡ true → int_le z high ≡ true → int_lt z number ≡ true
le_lt number high z above below = grind (arith, ints)

pub not_less : (z : ℤ) → int_lt z z ≡ false
not_less z = grind (arith, ints)

pub le_true : (a b : ℤ) → a ≤ℤ b → int_le a b ≡ true
le_true a b h = grind (arith, ints)

lt_weak : (a b : ℤ) → int_lt a b ≡ true → a ≤ℤ b
lt_weak a b h = grind (arith, ints)

pub lt_true : (a b : ℤ) → a <ℤ b → int_lt a b ≡ true
lt_true a b h = grind (arith, ints)

pub not_lt : (a b : ℤ) → int_lt a b ≡ false → b ≤ℤ a
not_lt a b h = grind (arith, ints)

lt_through : (a b t : ℤ) → a ≤ℤ b → int_lt b t ≡ true → int_lt a t ≡ true
lt_through a b t rise below = grind (arith, ints)

le_through : (a b t : ℤ) → a ≤ℤ b → int_le b t ≡ true → int_le a t ≡ true
le_through a b t rise below = grind (arith, ints)

-- ---- laws of ranks

keeps_all : (b : Bool) (z : ℤ) (xs ys : List ℤ) → length xs ≤ length ys → length (cond b (z ∷ xs) xs) ≤ length (z ∷ ys)
keeps_all true z xs ys le = omega (arith, le)
keeps_all false z xs ys le = omega (arith, le)

pub bounded : (p : ℤ → Bool) (zs : List ℤ) → length (filter p zs) ≤ length zs
bounded p [] = omega arith
bounded p (z ∷ zs) = keeps_all (p z) z (filter p zs) zs (bounded p zs)

pub below_rises : (low high : ℤ) (zs : List ℤ) → low ≤ℤ high → count_below low zs ≤ count_below high zs
below_rises low high zs rise = count_le (λ z. int_lt z low) (λ z. int_lt z high) (λ z. lt_lt low high z rise) zs

pub through_rises : (low high : ℤ) (zs : List ℤ) → low ≤ℤ high → count_through low zs ≤ count_through high zs
through_rises low high zs rise = count_le (λ z. int_le z low) (λ z. int_le z high) (λ z. le_le low high z rise) zs

-- one of the numbers that is below a bound ranks below it
less_below : (low number : ℤ) (zs : List ℤ) → Contains zs number → int_lt number low ≡ true → count_below number zs < count_below low zs
less_below low number zs among less =
    count_lt (λ z. int_lt z number) (λ z. int_lt z low) (λ z. lt_lt number low z (lt_weak number low less)) zs among.0 number among.1
    (subst (λ z. int_lt z number ≡ false) (sym among.2) (not_less number)) (subst (λ z. int_lt z low ≡ true) (sym among.2) less)

pub tells_from : (low number : ℤ) (zs : List ℤ) → Contains zs number → (low ≤ℤ number) ↔ (count_below low zs ≤ count_below number zs)
tells_from low number zs among = (
  λ at. below_rises low number zs at,
  λ ranks. by_lt_z number low (λ less. let strict = less_below low number zs among (lt_true number low less) in absurd (omega (arith, strict, ranks))) (λ at. at),
)

pub tells_to : (high number : ℤ) (zs : List ℤ) → Contains zs number → (number ≤ℤ high) ↔ (count_below number zs < count_through high zs)
tells_to high number zs among = (
  λ at. count_lt (λ z. int_lt z number) (λ z. int_le z high) (λ z. lt_le number high z at) zs among.0 number among.1
      (subst (λ z. int_lt z number ≡ false) (sym among.2) (not_less number)) (subst (λ z. int_le z high ≡ true) (sym among.2) (le_true number high at)),
  λ ranks. by_lt_z high number
      (λ above. let all = count_le (λ z. int_le z high) (λ z. int_lt z number) (λ z. le_lt number high z (lt_true high number above)) zs in absurd (omega (arith, all, ranks))) (λ at. at),
)

-- ---- where numbers that rise are parted

pub IsPartitionedBy-lt : (zs : List ℤ) (low : ℤ) → IsRising zs → IsPartitionedBy (λ z. int_lt z low) zs
IsPartitionedBy-lt zs low rise i j d order below before = lt_through _ _ low (rise i j d order below) before

pub IsPartitionedBy-le : (zs : List ℤ) (high : ℤ) → IsRising zs → IsPartitionedBy (λ z. int_le z high) zs
IsPartitionedBy-le zs high rise i j d order below before = le_through _ _ high (rise i j d order below) before

pub parted_below : (number : ℤ) (zs : List ℤ) → IsRising zs → IsPartitionPoint (λ z. int_lt z number ≡ true) (λ z. int_lt z number ≡ false) zs (count_below number zs)
parted_below number zs rise = parted (λ z. int_lt z number) zs (IsPartitionedBy-lt zs number rise)

pub parted_through : (number : ℤ) (zs : List ℤ) → IsRising zs → IsPartitionPoint (λ z. int_le z number ≡ true) (λ z. int_le z number ≡ false) zs (count_through number zs)
parted_through number zs rise = parted (λ z. int_le z number) zs (IsPartitionedBy-le zs number rise)

not_below : (a b : ℤ) → is_lt (int_cmp b a) ≡ false → a ≤ℤ b
not_below a b above = grind (arith, ints)

-- numbers that were sorted rise
pub IsRising-sorted : (zs : List ℤ) → IsSorted int_cmp zs → IsRising zs
IsRising-sorted zs sorted i j d order below =
    not_below (get_or zs i d) (get_or zs j d) (sorted_far (λ a b. is_lt (int_cmp a b)) (ranks_by int_cmp_total (λ (z : ℤ). z)) zs sorted i j d order below)

-- and so do the numbers of what was sorted by them
pub IsRising-sorted_by : {A : Type 0} (key : A → ℤ) (xs : List A) → IsSortedByKey key int_cmp xs → IsRising (map key xs)
IsRising-sorted_by key [] sorted i j d order below = absurd (omega (arith, below))
IsRising-sorted_by key (x ∷ xs) sorted i j d order below =
    let all = x ∷ xs in
    let inside : j < length all = omega (arith, length-map all key, below) in
    let far = sorted_far (λ a b. is_lt (int_cmp (key a) (key b))) (ranks_by int_cmp_total key) all sorted i j x order inside in
    let later : key (get_or all i x) ≤ℤ key (get_or all j x) = not_below (key (get_or all i x)) (key (get_or all j x)) far in
    let at_j : key (get_or all i x) ≤ℤ get_or (map key all) j d = subst (λ z. key (get_or all i x) ≤ℤ z) (sym (get_or-map key all j x d inside)) later in
    subst (λ z. z ≤ℤ get_or (map key all) j d) (sym (get_or-map key all i x d (omega (arith, order, inside)))) at_j
