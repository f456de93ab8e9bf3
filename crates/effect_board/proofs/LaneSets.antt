-- From one lane of a set to the next.
use Rattle.std.proofs.Common.{◌≡◌, ℕ, zero, suc, ◌+◌, ◌-◌, ◌/◌, ◌<◌, ◌≤◌, ◌==◌, bit_and, false, inl, inr, min, true, w64, ap, sym, ◌∙◌, refl, arith}
use Rattle.std.specs.Int.{bit_at, trailing_zeros}
use Rattle.std.proofs.lemmas.Bool.{cases_lt, false≢true}
use Rattle.std.proofs.lemmas.Nat.Bits.{bit_at_and, bit_at_lowest, bit_at-suc, bit_at-trailing_zeros, bit_at-zero}
use Rattle.effect_board.specs.Lanes.{is_in}

-- a lane that a number has as its lowest
abbrev IsLowest : ℕ → ℕ → Type 0
IsLowest set lane = (bit_at set lane ≡ 1) × ((i : ℕ) → i < lane → bit_at set i ≡ 0)

half_lowest : (set lane : ℕ) → IsLowest set (suc lane) → IsLowest (set / 2) lane
half_lowest set lane is = (sym (bit_at-suc set lane) ∙ is.0, λ i under. sym (bit_at-suc set i) ∙ is.1 (suc i) (omega (arith, under)))

half_odd : (set : ℕ) → bit_at set 0 ≡ 1 → (set - 1) / 2 ≡ set / 2
half_odd set odd = let low = bit_at_lowest set in omega (arith, odd, low)

half_even : (set : ℕ) → bit_at set 0 ≡ 0 → (set - 1) / 2 ≡ set / 2 - 1
half_even set even = let low = bit_at_lowest set in omega (arith, even, low)

-- one less has the same lanes above that, and not that
less_above : (lane set k : ℕ) → IsLowest set lane → lane < k → bit_at (set - 1) k ≡ bit_at set k
less_above lane set zero is above = absurd (omega (arith, above))
less_above zero set (suc k) is above =
    bit_at-suc (set - 1) k ∙ ap (λ n. bit_at n k) (half_odd set is.0) ∙ sym (bit_at-suc set k)
less_above (suc lane) set (suc k) is above =
    bit_at-suc (set - 1) k ∙ ap (λ n. bit_at n k) (half_even set (is.1 0 (omega arith)))
    ∙ less_above lane (set / 2) k (half_lowest set lane is) (omega (arith, above)) ∙ sym (bit_at-suc set k)

less_here : (lane set : ℕ) → IsLowest set lane → bit_at (set - 1) lane ≡ 0
less_here zero set is = let low = bit_at_lowest set in let less = bit_at_lowest (set - 1) in let odd = is.0 in omega (arith, low, less, odd)
less_here (suc lane) set is =
    bit_at-suc (set - 1) lane ∙ ap (λ n. bit_at n lane) (half_even set (is.1 0 (omega arith))) ∙ less_here lane (set / 2) (half_lowest set lane is)

min_same : (n : ℕ) → min n n ≡ n
min_same n = omega arith

min_end : (n : ℕ) → min n 0 ≡ 0
min_end n = omega arith

-- of the lanes of a set there are left those from the next on
pub record IsRest (lanes left next : ℕ) : Type 0 where
  pub before : (k : ℕ) → k < next → is_in left k ≡ false
  pub behind : (k : ℕ) → next ≤ k → k < 64 → is_in left k ≡ is_in lanes k

pub rest_all : (lanes : ℕ) → IsRest lanes lanes 0
rest_all lanes = record { before = λ k below. absurd (omega (arith, below)); behind = λ k from below. refl }

-- the lowest lane that is left, and what is left without it
module _ (lanes left next : ℕ) (few : left < 18446744073709551616) (some : 0 < left) (rest : IsRest lanes left next) where
  abbrev lane : ℕ
  lane = trailing_zeros w64 left

  pub inside : lane < 64
  inside = (bit_at-trailing_zeros w64 left some few).0

  is : IsLowest left lane
  is = let lowest = bit_at-trailing_zeros w64 left some few in (lowest.1, lowest.2)

  own : is_in left lane ≡ true
  own = ap (λ n. n == 1) is.0

  pub from_next : next ≤ lane
  from_next = elim (cases_lt lane next) [
    | inl under ↦ absurd (false≢true (sym (rest.before lane under) ∙ own))
    | inr over ↦ over
  ]

  pub taken : is_in lanes lane ≡ true
  taken = sym (rest.behind lane from_next inside) ∙ own

  pub between : (k : ℕ) → next ≤ k → k < lane → is_in lanes k ≡ false
  between k from below = let below_all = inside in sym (rest.behind k from (omega (arith, below, below_all))) ∙ ap (λ n. n == 1) (is.1 k below)

  gone : (k : ℕ) → k < lane + 1 → min (bit_at left k) (bit_at (left - 1) k) ≡ 0
  gone k below = elim (cases_lt k lane) [
    | inl under ↦ let none = is.1 k under in omega (arith, none)
    | inr over ↦ let none = less_here lane left is in let same : k ≡ lane = omega (arith, over, below) in
        ap (λ n. min (bit_at left n) (bit_at (left - 1) n)) same ∙ ap (min (bit_at left lane)) none ∙ min_end (bit_at left lane)
  ]

  pub less : IsRest lanes (bit_and left (left - 1)) (lane + 1)
  less = record {
    before = λ k below. ap (λ n. n == 1) (bit_at_and left (left - 1) k ∙ gone k below);
    behind = λ k from below.
        ap (λ n. n == 1) (bit_at_and left (left - 1) k ∙ ap (min (bit_at left k)) (less_above lane left k is (omega (arith, from))) ∙ min_same (bit_at left k))
        ∙ (let next_on = from_next in rest.behind k (omega (arith, from, next_on)) below);
  }

-- where none is left, no lane from the next on was in the set
pub none_left : (lanes left next : ℕ) → left ≡ 0 → IsRest lanes left next → (k : ℕ) → next ≤ k → k < 64 → is_in lanes k ≡ false
none_left lanes left next none rest k from below = sym (rest.behind k from below) ∙ ap (λ n. is_in n k) none ∙ ap (λ n. n == 1) (bit_at-zero k)
