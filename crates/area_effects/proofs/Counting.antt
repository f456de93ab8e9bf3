-- How many numbers pass a test: in rising order, and beside those that pass another one.
use Rattle.std.proofs.Common.{◌≡◌, ◌∙◌, ℕ, zero, suc, ℤ, ◌+◌, ◌<◌, ◌≤◌, Bool, true, false, cond, List, [], ◌∷◌, length, get_or, refl, sym, ap, arith}
use Rattle.std.specs.Prelude.{count_by, int_lt, int_le}
use Rattle.std.specs.List.Sorted.{IsPartitionedBy, IsPartitionPoint}
use Rattle.std.specs.Ordering.{int_cmp, is_lt}
use Rattle.std.specs.declared.cmp.Ordering.TheVariants.{Less, Equal, Greater}
use Rattle.std.proofs.lemmas.Cmp.{int_cmp_total}
use Rattle.std.proofs.lemmas.Int.{ints}
use Rattle.std.proofs.lemmas.List.Sorted.{ranks_by, sorted_far}
use Rattle.std.proofs.lemmas.List.Sums.{sum_by-cons, sum_by-le-sum_by}
use Rattle.area_effects.specs.Ranks.{IsRising}

-- what an item adds to a count
abbrev one : Bool → ℕ
one b = cond b 1 0

count-cons : {A : Type 0} (test : A → Bool) (x : A) (xs : List A) → count_by test (x ∷ xs) ≡ one (test x) + count_by test xs
count-cons test x xs = sum_by-cons (λ y. one (test y)) x xs

-- where a test parts a list, its place is how many pass
count-parted : {A : Type 0} (test : A → Bool) (items : List A) (place : ℕ) → place ≤ length items
    → IsPartitionPoint (λ item. test item ≡ true) (λ item. test item ≡ false) items place → count_by test items ≡ place
count-parted test [] place bound parted = omega (arith, bound)
count-parted test (item ∷ items) zero bound parted =
    let first : test item ≡ false = parted.1 0 item (omega arith) (omega arith) in
    let rest : count_by test items ≡ 0 =
    count-parted test items 0 (omega arith) ((λ k d low before. absurd (omega (arith, before))), (λ k d later inside. parted.1 (suc k) d (omega arith) (omega (arith, inside)))) in
    omega (arith, count-cons test item items, rest, ap one first)
count-parted test (item ∷ items) (suc place) bound parted =
    let first : test item ≡ true = parted.0 0 item (omega arith) (omega arith) in
    let rest : count_by test items ≡ place =
    count-parted test items place (omega (arith, bound)) ((λ k d low before. parted.0 (suc k) d (omega arith) (omega (arith, before))), (λ k d later inside. parted.1 (suc k) d (omega (arith, later)) (omega (arith, inside)))) in
    omega (arith, count-cons test item items, rest, ap one first)

-- and where the items are others that are the same
pub count-found : {A : Type 0} (test : A → Bool) (items held : List A) (place : ℕ) → items ≡ held → place ≤ length items
    → IsPartitionPoint (λ item. test item ≡ true) (λ item. test item ≡ false) items place → place ≡ count_by test held
count-found test items held place same bound parted = sym (count-parted test items place bound parted) ∙ ap (count_by test) same

less-is : (x y : ℤ) → is_lt (int_cmp x y) ≡ int_lt x y
less-is x y = by (int_lt x y) (int_lt y x)
  where
    by : (a b : Bool) → is_lt (cond a Less (cond b Greater Equal)) ≡ a
    by true b = refl
    by false true = refl
    by false false = refl

module _ (numbers : List ℤ) (rising : IsRising numbers) where
  far : (i j : ℕ) (d : ℤ) → i ≤ j → j < length numbers → int_lt (get_or numbers j d) (get_or numbers i d) ≡ false
  far i j d before inside =
      sym (less-is (get_or numbers j d) (get_or numbers i d))
      ∙ sorted_far (λ a b. is_lt (int_cmp a b)) (ranks_by int_cmp_total (λ (z : ℤ). z)) numbers rising i j d before inside

  pub parted-below : (t : ℤ) → IsPartitionedBy (λ z. int_lt z t) numbers
  parted-below t i j d before inside below = let order = far i j d before inside in grind (arith, ints)

  pub parted-through : (t : ℤ) → IsPartitionedBy (λ z. int_le z t) numbers
  parted-through t i j d before inside below = let order = far i j d before inside in grind (arith, ints)

-- where each item that passes one test passes another, no more pass the one; and fewer do, where an item passes the other one alone
module _ {A : Type 0} (narrow wide : A → Bool) (implied : (x : A) → narrow x ≡ true → wide x ≡ true) where
  one-le : (x : A) → one (narrow x) ≤ one (wide x)
  one-le x = by (narrow x) (wide x) (implied x)
    where
      by : (a b : Bool) → (a ≡ true → b ≡ true) → one a ≤ one b
      by true true follows = omega arith
      by true false follows = cc (follows refl)
      by false b follows = omega arith

  pub count-le : (xs : List A) → count_by narrow xs ≤ count_by wide xs
  count-le xs = sum_by-le-sum_by (λ x. one (narrow x)) (λ x. one (wide x)) xs one-le

  pub count-lt : (xs : List A) (k : ℕ) (d : A) → k < length xs → narrow (get_or xs k d) ≡ false → wide (get_or xs k d) ≡ true → count_by narrow xs < count_by wide xs
  count-lt [] k d inside fails passes = absurd (omega (arith, inside))
  count-lt (x ∷ xs) zero d inside fails passes =
      omega (arith, count-cons narrow x xs, count-cons wide x xs, count-le xs, ap one fails, ap one passes)
  count-lt (x ∷ xs) (suc k) d inside fails passes =
      let rest : count_by narrow xs < count_by wide xs = count-lt xs k d (omega (arith, inside)) fails passes in
      omega (arith, count-cons narrow x xs, count-cons wide x xs, one-le x, rest)
