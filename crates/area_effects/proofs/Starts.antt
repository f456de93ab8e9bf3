-- Where the places of a node start: its number without the lowest binary 1.
use Rattle.std.proofs.Common.{◌≡◌, ◌∙◌, ℕ, zero, suc, ◌+◌, ◌-◌, ◌*◌, ◌/◌, ◌%◌, ◌<◌, ◌≤◌, min, inl, inr, ⊎_elim, arith}
use Rattle.std.proofs.lemmas.Bool.{cases_eq}
use Rattle.std.specs.Prelude.{◌⊎◌, bit_and}
use Rattle.area_effects.specs.Fenwick.{start_of}
use lib.Bits.{and_step, and_self, and_le_r}

-- the node that stands for the places of this one and for more
abbrev pub after : ℕ → ℕ
after n = n + (n - start_of n)

pub start-below : (n : ℕ) → 0 < n → start_of n < n
start-below n positive = omega (arith, and_le_r n (n - 1))

pub after-above : (n : ℕ) → 0 < n → n < after n
after-above n positive = omega (arith, start-below n positive)

start-odd : (m n : ℕ) → n ≡ 2 * m + 1 → start_of n ≡ 2 * m
start-odd m n is =
    let half : n / 2 ≡ m = omega (arith, is) in
    let other : (n - 1) / 2 ≡ m = omega (arith, is) in
    let last : min (n % 2) ((n - 1) % 2) ≡ 0 = omega (arith, is) in
    let same : bit_and (n / 2) ((n - 1) / 2) ≡ m = (λ i. bit_and (half i) (other i)) ∙ and_self m in
    omega (arith, and_step n (n - 1), same, last)

start-even : (m n : ℕ) → 0 < m → n ≡ 2 * m → start_of n ≡ 2 * start_of m
start-even m n positive is =
    let half : n / 2 ≡ m = omega (arith, is) in
    let other : (n - 1) / 2 ≡ m - 1 = omega (arith, is) in
    let last : min (n % 2) ((n - 1) % 2) ≡ 0 = omega (arith, is) in
    let same : bit_and (n / 2) ((n - 1) / 2) ≡ start_of m = λ i. bit_and (half i) (other i) in
    omega (arith, and_step n (n - 1), same, last)

halves : (n : ℕ) → (n ≡ 2 * (n / 2)) ⊎ (n ≡ 2 * (n / 2) + 1)
halves n = ⊎_elim (λ even. inl (omega arith)) (λ odd. inr (omega arith)) (cases_eq (n % 2) 0)

-- no node between has its places start before
pub starts-between : (fuel n j : ℕ) → n ≤ fuel → 0 < n → n < j → j < after n → n ≤ start_of j
starts-between zero n j bound positive later before = absurd (omega arith)
starts-between (suc fuel) n j bound positive later before = ⊎_elim
    (λ even.
    let m = n / 2 in let q = j / 2 in
    let start : start_of n ≡ 2 * start_of m = start-even m n (omega arith) even in
    ⊎_elim
    (λ j-even.
    let inner : m ≤ start_of q = starts-between fuel m q (omega arith) (omega arith) (omega arith) (omega (arith, start)) in
    let j-start : start_of j ≡ 2 * start_of q = start-even q j (omega arith) j-even in
    omega (arith, inner, j-start))
    (λ j-odd. let j-start : start_of j ≡ 2 * q = start-odd q j j-odd in omega (arith, j-start))
    (halves j))
    (λ odd. let start : start_of n ≡ 2 * (n / 2) = start-odd (n / 2) n odd in absurd (omega (arith, start)))
    (halves n)

-- the next node's places start no later
pub starts-after : (fuel n : ℕ) → n ≤ fuel → 0 < n → start_of (after n) ≤ start_of n
starts-after zero n bound positive = absurd (omega arith)
starts-after (suc fuel) n bound positive = ⊎_elim
    (λ even.
    let m = n / 2 in
    let start : start_of n ≡ 2 * start_of m = start-even m n (omega arith) even in
    let inner : start_of (after m) ≤ start_of m = starts-after fuel m (omega arith) (omega arith) in
    let next : after n ≡ 2 * after m = omega (arith, start) in
    let further : start_of (after n) ≡ 2 * start_of (after m) = start-even (after m) (after n) (omega arith) next in
    omega (arith, start, inner, further))
    (λ odd.
    let m = n / 2 in
    let start : start_of n ≡ 2 * m = start-odd m n odd in
    let next : after n ≡ 2 * (m + 1) = omega (arith, start) in
    let further : start_of (after n) ≡ 2 * start_of (m + 1) = start-even (m + 1) (after n) (omega arith) next in
    omega (arith, start, further, start-below (m + 1) (omega arith)))
    (halves n)
