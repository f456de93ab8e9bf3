-- Sets of lanes, bit by bit.
use Rattle.std.proofs.Common.{◌≡◌, ◌<◌, ◌≤◌, ℕ, ◌-◌, ◌*◌, ◌/◌, ◌%◌, ◌^◌, ◌==◌, ◌&&◌, ◌||◌, ◌⊎◌, inl, inr, Bool, true, false, nat_lt, refl, not, min, max, ap, sym, ◌∙◌, arith, w64, bit_and}
use Rattle.std.specs.Int.{bit_at}
use Rattle.std.specs.Int.RustNames.{bit_or}
use Rattle.std.proofs.lemmas.Bool.{cases_lt, cases_eq, eq-eqb, ne_eqb}
use Rattle.std.proofs.lemmas.Bool.Decides.{nat_tests}
use Rattle.std.proofs.lemmas.Nat.Bits.{bit_at_ones, bit_at_ones_above, ones_shr, shr_and_one, bit_at_and, bit_at_or, bit_at_not, bit_at-pow_same, bit_at-pow_other, bit_at_above, bit_at-lt, bit_at-zero}
use Rattle.std.proofs.Math.Pow.{pow-lt}
use Rattle.sgl_lanes.specs.Lanes.{has}

pub has_is : (mask lane : ℕ) → (bit_and (mask / 2 ^ lane) 1 == 1) ≡ has mask lane
unfolding has
has_is mask lane = ap (λ b. b == 1) (shr_and_one mask lane)

pub has_zero : (k : ℕ) → has 0 k ≡ false
unfolding has
has_zero k = ap (λ b. b == 1) (bit_at-zero k)

-- a set of 64 bits has no lane from 64 on
pub has_past : (mask k : ℕ) → mask < 18446744073709551616 → 64 ≤ k → has mask k ≡ false
unfolding has
has_past mask k small past = ap (λ b. b == 1) (bit_at_above mask 64 k small past)

bit_is : (b : ℕ) → b < 2 → (b ≡ 0) ⊎ (b ≡ 1)
bit_is b small = elim (cases_lt b 1) [ inl below ↦ inl (omega arith) | inr above ↦ inr (omega arith) ]

one_of_both : (a b : ℕ) → a < 2 → b < 2 → (min a b == 1) ≡ (a == 1 && b == 1)
one_of_both a b small little = elim (bit_is a small) [
  | inl p ↦ elim (bit_is b little) [ inl q ↦ rw (p, q) | inr q ↦ rw (p, q) ]
  | inr p ↦ elim (bit_is b little) [ inl q ↦ rw (p, q) | inr q ↦ rw (p, q) ]
]

one_of_either : (a b : ℕ) → a < 2 → b < 2 → (max a b == 1) ≡ (a == 1 || b == 1)
one_of_either a b small little = elim (bit_is a small) [
  | inl p ↦ elim (bit_is b little) [ inl q ↦ rw (p, q) | inr q ↦ rw (p, q) ]
  | inr p ↦ elim (bit_is b little) [ inl q ↦ rw (p, q) | inr q ↦ rw (p, q) ]
]

one_of_contrary : (a b : ℕ) → a < 2 → b < 2 → (min a (1 - b) == 1) ≡ (a == 1 && not (b == 1))
one_of_contrary a b small little = elim (bit_is a small) [
  | inl p ↦ elim (bit_is b little) [ inl q ↦ rw (p, q) | inr q ↦ rw (p, q) ]
  | inr p ↦ elim (bit_is b little) [ inl q ↦ rw (p, q) | inr q ↦ rw (p, q) ]
]

pub has_both : (a b k : ℕ) → has (bit_and a b) k ≡ (has a k && has b k)
unfolding has
has_both a b k = ap (λ n. n == 1) (bit_at_and a b k) ∙ one_of_both (bit_at a k) (bit_at b k) (bit_at-lt a k) (bit_at-lt b k)

pub has_either : (a b k : ℕ) → has (bit_or a b) k ≡ (has a k || has b k)
unfolding has
has_either a b k = ap (λ n. n == 1) (bit_at_or a b k) ∙ one_of_either (bit_at a k) (bit_at b k) (bit_at-lt a k) (bit_at-lt b k)

without_below : (a b k : ℕ) → b < 18446744073709551616 → k < 64 → has (bit_and a (18446744073709551615 - b)) k ≡ (has a k && not (has b k))
unfolding has
without_below a b k little below =
    ap (λ n. n == 1) (bit_at_and a (18446744073709551615 - b) k ∙ ap (λ n. min (bit_at a k) n) (bit_at_not w64 b k little below))
    ∙ one_of_contrary (bit_at a k) (bit_at b k) (bit_at-lt a k) (bit_at-lt b k)

without_past : (a b k : ℕ) → a < 18446744073709551616 → 64 ≤ k → has (bit_and a (18446744073709551615 - b)) k ≡ (has a k && not (has b k))
without_past a b k small past =
    let none : has a k ≡ false = has_past a k small past in
    has_both a (18446744073709551615 - b) k ∙ rw none

pub has_without : (a b k : ℕ) → a < 18446744073709551616 → b < 18446744073709551616
    → has (bit_and a (18446744073709551615 - b)) k ≡ (has a k && not (has b k))
has_without a b k small little =
    elim (cases_lt k 64) [ inl below ↦ without_below a b k little below | inr past ↦ without_past a b k small past ]

pub one_is : (lane : ℕ) → lane < 64 → 1 * 2 ^ lane % 18446744073709551616 ≡ 2 ^ lane
one_is lane inside = let small : 2 ^ lane < 18446744073709551616 = pow-lt {i = lane} {j = 64} inside in omega (arith, small)

has_power : (lane k : ℕ) → has (2 ^ lane) k ≡ (k == lane)
unfolding has
has_power lane k = elim (cases_eq k lane) [
  | inl same ↦ ap (λ n. n == 1) (ap (λ i. bit_at (2 ^ lane) i) same ∙ bit_at-pow_same lane) ∙ sym (eq-eqb k lane same)
  | inr apart ↦ ap (λ n. n == 1) (bit_at-pow_other lane k apart) ∙ sym (ne_eqb k lane apart)
]

pub has_one : (lane k : ℕ) → lane < 64 → has (1 * 2 ^ lane % 18446744073709551616) k ≡ (k == lane)
has_one lane k inside = ap (λ mask. has mask k) (one_is lane inside) ∙ has_power lane k

-- the first lanes
has_ones : (n k : ℕ) (t : Bool) → nat_lt k n ≡ t → has (2 ^ n - 1) k ≡ t
unfolding has
has_ones n k true is = ap (λ b. b == 1) (bit_at_ones n k (grind (arith, nat_tests, is)))
has_ones n k false is = ap (λ b. b == 1) (bit_at_ones_above n k (grind (arith, nat_tests, is)))

pub has_all : (k : ℕ) → k < 64 → has 18446744073709551615 k ≡ true
has_all k below = has_ones 64 k true (grind (arith, nat_tests, below))

pub has_first : (count k : ℕ) → count ≤ 64 → has (18446744073709551615 / 2 ^ (64 - count)) k ≡ nat_lt k count
has_first count k le =
    let back : 64 - (64 - count) ≡ count = omega (arith, le) in
    ap (λ m. has m k) (ones_shr 64 (64 - count) (omega (arith, le))) ∙ ap (λ n. has (2 ^ n - 1) k) back ∙ has_ones count k (nat_lt k count) refl

pub has_none : (k : ℕ) → has 0 k ≡ nat_lt k 0
has_none k = has_zero k ∙ sym (below_none (nat_lt k 0) refl)
  where
    below_none : (t : Bool) → nat_lt k 0 ≡ t → nat_lt k 0 ≡ false
    below_none true is = absurd (grind (arith, nat_tests, is))
    below_none false is = is

pub first_below : (mask count lane : ℕ) → ((k : ℕ) → has mask k ≡ nat_lt k count) → has mask lane ≡ true → lane < count
first_below mask count lane first own = let below : nat_lt lane count ≡ true = sym (first lane) ∙ own in grind (arith, nat_tests, below)

pub first_has : (mask count lane : ℕ) → ((k : ℕ) → has mask k ≡ nat_lt k count) → lane < count → has mask lane ≡ true
first_has mask count lane first below = let is : nat_lt lane count ≡ true = grind (arith, nat_tests, below) in first lane ∙ is
