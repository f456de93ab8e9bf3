-- Sets of rows, bit by bit.
use Rattle.std.proofs.Common.{◌≡◌, ℕ, ◌+◌, ◌-◌, ◌*◌, ◌^◌, ◌<◌, ◌≤◌, ◌==◌, ◌||◌, Bool, true, false, cond, inl, inr, List, get_or, refl, ap, ◌∙◌, arith}
use lib.Lanes.{mask_l}
use Rattle.std.proofs.Math.Pow.{pow_mono}
use Rattle.std.proofs.lemmas.Bool.{cases_lt, eq-eqb, ne_eqb}
use Rattle.std.proofs.lemmas.Nat.{pow-add}
use Rattle.std.proofs.lemmas.Nat.Bits.{bit_at_cat_high, bit_at_cat_low}
use Rattle.std.proofs.lemmas.Simd.{bit_mask_l}
use Rattle.sgl_lanes.specs.Lanes.{has}
use Rattle.plan_executor.specs.RowSets.{IsWith}

either_true : (a : Bool) → (a || true) ≡ true
either_true true = refl
either_true false = refl

either_false : (a : Bool) → (a || false) ≡ a
either_false true = refl
either_false false = refl

-- the set with one more row
pub with_is : (mask row one new : ℕ) → ((k : ℕ) → has one k ≡ (k == row)) → ((k : ℕ) → has new k ≡ (has mask k || has one k)) → IsWith mask row new
with_is mask row one new only is = record {
  same = is row ∙ ap (λ b. has mask row || b) (only row ∙ eq-eqb row row refl) ∙ either_true (has mask row);
  other = λ k apart. is k ∙ ap (λ b. has mask k || b) (only k ∙ ne_eqb k row apart) ∙ either_false (has mask k);
}

-- the places of a mask
one_told : (t : Bool) → (cond t 1 0 == 1) ≡ t
one_told true = refl
one_told false = refl

pub has_mask : (ms : List Bool) (k : ℕ) → has (mask_l ms) k ≡ get_or ms k false
unfolding has
has_mask ms k = ap (λ n. n == 1) (bit_mask_l ms k) ∙ one_told (get_or ms k false)

-- a set behind one run more, whose rows stand first
run_first : (set run k : ℕ) → k < 8 → has (set * 256 + run) k ≡ has run k
unfolding has
run_first set run k below = ap (λ n. n == 1) (bit_at_cat_low set 8 run k below)

run_behind : (set run k : ℕ) → run < 256 → 8 ≤ k → has (set * 256 + run) k ≡ has set (k - 8)
unfolding has
run_behind set run k small past = ap (λ n. n == 1) (bit_at_cat_high set 8 run k small past)

pub runs_more : (p : ℕ → Bool) (set run done : ℕ) → done < 8 → run < 256 → ((k : ℕ) → k < 8 → has run k ≡ p (64 - 8 * (done + 1) + k)) → ((k : ℕ) → k < 8 * done → has set k ≡ p (64 - 8 * done + k))
    → (k : ℕ) → k < 8 * (done + 1) → has (set * 256 + run) k ≡ p (64 - 8 * (done + 1) + k)
runs_more p set run done inside small first rest k below = elim (cases_lt k 8) [
  | inl here ↦ run_first set run k here ∙ first k here
  | inr past ↦
      let same : 64 - 8 * done + (k - 8) ≡ 64 - 8 * (done + 1) + k = omega (arith, inside, past, below) in
      run_behind set run k small past ∙ rest (k - 8) (omega (arith, past, below)) ∙ ap p same
]

pub runs_small : (set run done : ℕ) → run < 256 → set < 2 ^ (8 * done) → set * 256 + run < 2 ^ (8 * (done + 1))
runs_small set run done small less =
    let wide : 2 ^ (8 * (done + 1)) ≡ 2 ^ (8 * done) * 256 = ap (λ n. 2 ^ n) (omega arith) ∙ pow-add 2 (8 * done) 8 in
    omega (arith, wide, small, less)

pub runs_below : (set done : ℕ) → done < 8 → set < 2 ^ (8 * done) → set < 72057594037927936
runs_below set done inside less = let most : 2 ^ (8 * done) ≤ 2 ^ 56 = pow_mono {i = 8 * done} {j = 56} (omega (arith, inside)) in omega (arith, most, less)
