-- How far many numbers reach together.
use Rattle.std.proofs.Common.{◌≡◌, ◌<◌, ◌≤◌, ◌+◌, ℕ, inl, inr, bit_or, subst, arith}
use Rattle.std.proofs.lemmas.Bool.{cases_lt}
use Rattle.std.proofs.lemmas.Nat.{le_or_l, le_or_r}

last_is : (k lane : ℕ) → k < lane + 1 → lane ≤ k → lane ≡ k
last_is k lane below past = omega (arith, below, past)

-- where all bits together stay below an end, so does each number, and what is so of numbers below it is so of one more
pub one_more_below : (P : ℕ → Type 0) (reach height end lane : ℕ) → (reach < end → (k : ℕ) → k < lane → P k) → (height < end → P lane)
    → bit_or reach height < end → (k : ℕ) → k < lane + 1 → P k
one_more_below P reach height end lane before last small k below =
    let first : reach ≤ bit_or reach height = le_or_l reach height in
    let second : height ≤ bit_or reach height = le_or_r reach height in
    elim (cases_lt k lane) [
      | inl earlier ↦ before (omega (arith, first, small)) k earlier
      | inr past ↦ subst P (last_is k lane below past) (last (omega (arith, second, small)))
    ]
