-- Rows that are linked by the numbers of groups are in one list each.
use Rattle.std.proofs.Common.{◌≡◌, ℕ, zero, suc, ◌+◌, ◌<◌, ◌≤◌, ◌==◌, Bool, true, false, cond, List, [], ◌∷◌, length, inl, inr, refl, ap, sym, ◌∙◌, arith}
use Rattle.std.specs.Prelude.{filter, All}
use Rattle.std.specs.List.{range_with_len, sum_by}
use Rattle.std.proofs.lemmas.Bool.{cases_eq, eq-eqb, ne_eqb}
use Rattle.std.proofs.lemmas.List.Elements.{All-head, All-tail}
use Rattle.std.proofs.lemmas.List.Sums.{sum_by-cons}
use Rattle.cell_links.specs.Links.{Links}
use Rattle.row_groups.specs.Groups.{AreWhole}
use Rattle.row_groups.specs.Places.{places, AreLinked}

-- ---- sums over numbers

pub same_sum : (f g : ℕ → ℕ) → ((n : ℕ) → f n ≡ g n) → (xs : List ℕ) → sum_by f xs ≡ sum_by g xs
same_sum f g same [] = refl
same_sum f g same (x ∷ xs) = sum_by-cons f x xs ∙ (λ i. same x i + same_sum f g same xs i) ∙ sym (sum_by-cons g x xs)

no_sum : (xs : List ℕ) → sum_by (λ n. 0) xs ≡ 0
no_sum [] = refl
no_sum (x ∷ xs) = omega (arith, sum_by-cons (λ n. 0) x xs, no_sum xs)

pub two_sums : (f g : ℕ → ℕ) (xs : List ℕ) → sum_by (λ n. f n + g n) xs ≡ sum_by f xs + sum_by g xs
two_sums f g [] = refl
two_sums f g (x ∷ xs) =
    let later : sum_by (λ n. f n + g n) xs ≡ sum_by f xs + sum_by g xs = two_sums f g xs in
    omega (arith, later, sum_by-cons (λ n. f n + g n) x xs, sum_by-cons f x xs, sum_by-cons g x xs)

pub sum_more : (f : ℕ → ℕ) (a n : ℕ) → sum_by f (range_with_len a (n + 1)) ≡ sum_by f (range_with_len a n) + f (a + n)
sum_more f a zero =
    let same : f a ≡ f (a + 0) = ap f (omega arith) in
    omega (arith, same, sum_by-cons f a [])
sum_more f a (suc n) =
    let later : sum_by f (range_with_len (a + 1) (n + 1)) ≡ sum_by f (range_with_len (a + 1) n) + f (a + 1 + n) = sum_more f (a + 1) n in
    let same : f (a + 1 + n) ≡ f (a + suc n) = ap f (omega arith) in
    let length : sum_by f (range_with_len a (suc n + 1)) ≡ f a + sum_by f (range_with_len (a + 1) (n + 1)) =
    ap (λ k. sum_by f (range_with_len a k)) {x = suc n + 1} {y = suc (n + 1)} (omega arith) ∙ sum_by-cons f a (range_with_len (a + 1) (n + 1)) in
    omega (arith, later, same, length, sum_by-cons f a (range_with_len (a + 1) n))

pub sum_grows : (f : ℕ → ℕ) (a k n : ℕ) → k ≤ n → sum_by f (range_with_len a k) ≤ sum_by f (range_with_len a n)
sum_grows f a zero n below = omega arith
sum_grows f a (suc k) zero below = absurd (omega (arith, below))
sum_grows f a (suc k) (suc n) below =
    let later = sum_grows f (a + 1) k n (omega (arith, below)) in
    omega (arith, later, sum_by-cons f a (range_with_len (a + 1) k), sum_by-cons f a (range_with_len (a + 1) n))

-- what counts for one number alone counts once
none_before : (number value a n : ℕ) → number < a → sum_by (λ k. cond (number == k) value 0) (range_with_len a n) ≡ 0
none_before number value a zero before = refl
none_before number value a (suc n) before =
    let here : cond (number == a) value 0 ≡ 0 = ap (λ b. cond b value 0) (ne_eqb number a (λ same. omega (arith, before, same))) in
    let later = none_before number value (a + 1) n (omega (arith, before)) in
    omega (arith, here, later, sum_by-cons (λ k. cond (number == k) value 0) a (range_with_len (a + 1) n))

pub one_counts : (number value a n : ℕ) → a ≤ number → number < a + n → sum_by (λ k. cond (number == k) value 0) (range_with_len a n) ≡ value
one_counts number value a zero first last = absurd (omega (arith, first, last))
one_counts number value a (suc n) first last = elim (cases_eq number a) [
  | inl same ↦
      let here : cond (number == a) value 0 ≡ value = ap (λ b. cond b value 0) (eq-eqb number a same) in
      let later = none_before number value (a + 1) n (omega (arith, same)) in
      omega (arith, here, later, sum_by-cons (λ k. cond (number == k) value 0) a (range_with_len (a + 1) n))
  | inr other ↦
      let here : cond (number == a) value 0 ≡ 0 = ap (λ b. cond b value 0) (ne_eqb number a other) in
      let later = one_counts number value (a + 1) n (omega (arith, first, other)) (omega (arith, last)) in
      omega (arith, here, later, sum_by-cons (λ k. cond (number == k) value 0) a (range_with_len (a + 1) n))
]

-- ---- the lists

module _ (passes : ℕ → Bool) (count : ℕ) where
  abbrev counted : List ℕ → ℕ → ℕ → ℕ
  counted numbers start group = length (filter passes (places (λ number. number == group) numbers start))

  counted-more : (number : ℕ) (numbers : List ℕ) (start group : ℕ) (b : Bool)
      → length (filter passes (cond b (start ∷ places (λ n. n == group) numbers (start + 1)) (places (λ n. n == group) numbers (start + 1))))
      ≡ cond b (cond (passes start) 1 0) 0 + counted numbers (start + 1) group
  counted-more number numbers start group true = kept (passes start)
    where
      kept : (p : Bool) → length (cond p (start ∷ filter passes (places (λ n. n == group) numbers (start + 1))) (filter passes (places (λ n. n == group) numbers (start + 1))))
          ≡ cond p 1 0 + counted numbers (start + 1) group
      kept true = omega arith
      kept false = omega arith
  counted-more number numbers start group false = omega arith

  first-counts : (start n : ℕ) (p : Bool) (rest : List ℕ) → length rest ≡ n → length (cond p (start ∷ rest) rest) ≡ cond p 1 0 + n
  first-counts start n true rest long = omega (arith, long)
  first-counts start n false rest long = omega (arith, long)

  all_counted : (numbers : List ℕ) (start : ℕ) → All (λ number. number < count) numbers
      → sum_by (counted numbers start) (range_with_len 0 count) ≡ length (filter passes (range_with_len start (length numbers)))
  all_counted [] start below = no_sum (range_with_len 0 count)
  all_counted (number ∷ numbers) start below =
      let first : number < count = All-head (λ n. n < count) number numbers below in
      same_sum (counted (number ∷ numbers) start) (λ group. cond (number == group) (cond (passes start) 1 0) 0 + counted numbers (start + 1) group)
      (λ group. counted-more number numbers start group (number == group)) (range_with_len 0 count)
      ∙ two_sums (λ group. cond (number == group) (cond (passes start) 1 0) 0) (counted numbers (start + 1)) (range_with_len 0 count)
      ∙ (λ i. one_counts number (cond (passes start) 1 0) 0 count (omega arith) (omega (arith, first)) i
      + all_counted numbers (start + 1) (All-tail (λ n. n < count) number numbers below) i)
      ∙ sym (first-counts start (length (filter passes (range_with_len (start + 1) (length numbers)))) (passes start)
      (filter passes (range_with_len (start + 1) (length numbers))) refl)

pub linked_whole : (links : Links) (numbers : List ℕ) (size count : ℕ) → AreLinked links numbers size count → All (λ number. number < count) numbers
    → AreWhole links.lists (length numbers)
linked_whole links numbers size count are below = λ passes.
    same_sum _ (counted passes count numbers 0) (λ group. ap (λ rows. length (filter passes rows)) (are.linked group)) (range_with_len 0 (length links.lists))
    ∙ ap (λ n. sum_by (counted passes count numbers 0) (range_with_len 0 n)) are.lists
    ∙ all_counted passes count numbers 0 below
