-- The least of a run of nodes: by its ends, and by the nodes above it.
use Rattle.std.proofs.Common.{◌≡◌, ◌∙◌, ◌+◌, ◌-◌, ◌*◌, ◌/◌, ◌%◌, ◌<◌, ◌≤◌, ℕ, zero, suc, refl, sym, ap, arith}
use Rattle.std.specs.Prelude.{Option}
use Rattle.extreme_sweep.specs.declared.pair.Pair.{Pair}
use Rattle.extreme_sweep.specs.Tree.{least_of_run}
use Rattle.extreme_sweep.proofs.PairLaws.{pair_laws, lesser}

module _ (f : ℕ → Option Pair) where
  -- the first taken alone
  pub run-first : (least : Option Pair) (low high : ℕ) → low < high
      → lesser (lesser least (f low)) (least_of_run f (low + 1) (high - (low + 1))) ≡ lesser least (least_of_run f low (high - low))
  run-first least low high below =
      let count : suc (high - (low + 1)) ≡ high - low = omega arith in
      pair_laws.assoc least (f low) (least_of_run f (low + 1) (high - (low + 1))) ∙ ap (λ n. lesser least (least_of_run f low n)) count

  last-of-run : (low count : ℕ) → least_of_run f low (suc count) ≡ lesser (least_of_run f low count) (f (low + count))
  last-of-run low zero =
      let place : low ≡ low + 0 = omega arith in
      pair_laws.none-right (f low) ∙ ap f place
  last-of-run low (suc count) =
      let place : (low + 1) + count ≡ low + suc count = omega arith in
      ap (lesser (f low)) (last-of-run (low + 1) count)
      ∙ sym (pair_laws.assoc (f low) (least_of_run f (low + 1) count) (f ((low + 1) + count)))
      ∙ ap (λ n. lesser (least_of_run f low (suc count)) (f n)) place

  -- the last taken alone
  pub run-last : (least : Option Pair) (low high : ℕ) → low < high
      → lesser (lesser least (f (high - 1))) (least_of_run f low ((high - 1) - low)) ≡ lesser least (least_of_run f low (high - low))
  run-last least low high below =
      let count : suc ((high - 1) - low) ≡ high - low = omega arith in
      let place : low + ((high - 1) - low) ≡ high - 1 = omega arith in
      pair_laws.assoc least (f (high - 1)) (least_of_run f low ((high - 1) - low))
      ∙ ap (lesser least)
      (pair_laws.comm (f (high - 1)) (least_of_run f low ((high - 1) - low))
      ∙ ap (λ n. lesser (least_of_run f low ((high - 1) - low)) (f n)) (sym place)
      ∙ sym (last-of-run low ((high - 1) - low)) ∙ ap (least_of_run f low) count)

  -- a run with an even beginning, for one that may begin with a node alone
  pub record BeginsEven (low high low' : ℕ) (least least' : Option Pair) : Type 0 where
    pub first : 0 < low'
    pub order : low' ≤ high
    pub even : low' % 2 ≡ 0
    pub same : lesser least' (least_of_run f low' (high - low')) ≡ lesser least (least_of_run f low (high - low))

  pub begins-taken : (low high low' : ℕ) (least least' : Option Pair) → low < high → low % 2 ≡ 1 → low' ≡ low + 1 → least' ≡ lesser least (f low)
      → BeginsEven low high low' least least'
  begins-taken low high low' least least' below odd next is = record {
    first = omega arith;
    order = omega arith;
    even = omega arith;
    same = (λ i. lesser (is i) (least_of_run f (next i) (high - next i))) ∙ run-first least low high below;
  }

  pub begins-kept : (low high low' : ℕ) (least least' : Option Pair) → 0 < low → low < high → (low % 2 ≡ 1 → ⊥) → low' ≡ low → least' ≡ least
      → BeginsEven low high low' least least'
  begins-kept low high low' least least' first below even next is = record {
    first = omega arith;
    order = omega arith;
    even = omega arith;
    same = λ i. lesser (is i) (least_of_run f (next i) (high - next i));
  }

  -- the same for the end
  pub record EndsEven (low high high' : ℕ) (least least' : Option Pair) : Type 0 where
    pub order : low ≤ high'
    pub last : high' ≤ high
    pub even : high' % 2 ≡ 0
    pub same : lesser least' (least_of_run f low (high' - low)) ≡ lesser least (least_of_run f low (high - low))

  pub ends-taken : (low high high' : ℕ) (least least' : Option Pair) → low ≤ high → low % 2 ≡ 0 → high % 2 ≡ 1 → high' ≡ high - 1 → least' ≡ lesser least (f (high - 1))
      → EndsEven low high high' least least'
  ends-taken low high high' least least' order even odd next is = record {
    order = omega arith;
    last = omega arith;
    even = omega arith;
    same = (λ i. lesser (is i) (least_of_run f low (next i - low))) ∙ run-last least low high (omega arith);
  }

  pub ends-kept : (low high high' : ℕ) (least least' : Option Pair) → low ≤ high → (high % 2 ≡ 1 → ⊥) → high' ≡ high → least' ≡ least
      → EndsEven low high high' least least'
  ends-kept low high high' least least' order even next is = record {
    order = omega arith;
    last = omega arith;
    even = omega arith;
    same = λ i. lesser (is i) (least_of_run f low (next i - low));
  }

  module _ (end : ℕ) (joined : (k : ℕ) → 0 < k → k < end → f k ≡ lesser (f (2 * k)) (f (2 * k + 1))) where
    -- by pairs
    run-pairs : (low count : ℕ) → 0 < low → low + count ≤ end → least_of_run f (2 * low) (2 * count) ≡ least_of_run f low count
    run-pairs low zero first last = refl
    run-pairs low (suc count) first last =
        let twice : 2 * suc count ≡ suc (suc (2 * count)) = omega arith in
        let next : (2 * low + 1) + 1 ≡ 2 * (low + 1) = omega arith in
        ap (least_of_run f (2 * low)) twice
        ∙ sym (pair_laws.assoc (f (2 * low)) (f (2 * low + 1)) (least_of_run f ((2 * low + 1) + 1) (2 * count)))
        ∙ (λ i. lesser (sym (joined low first (omega arith)) i) (least_of_run f (next i) (2 * count)))
        ∙ ap (lesser (f low)) (run-pairs (low + 1) count (omega arith) (omega arith))

    -- the nodes above a run with even ends
    run-above : (low high : ℕ) → 0 < low → low ≤ high → high ≤ end → least_of_run f (2 * low) (2 * high - 2 * low) ≡ least_of_run f low (high - low)
    run-above low high first order last =
        let twice : 2 * high - 2 * low ≡ 2 * (high - low) = omega arith in
        ap (least_of_run f (2 * low)) twice ∙ run-pairs low (high - low) first (omega arith)

    pub run-halved : (low high : ℕ) → 0 < low → low ≤ high → low % 2 ≡ 0 → high % 2 ≡ 0 → high ≤ 2 * end
        → least_of_run f (low / 2) (high / 2 - low / 2) ≡ least_of_run f low (high - low)
    run-halved low high first order low-even high-even last =
        let low-is : 2 * (low / 2) ≡ low = omega arith in
        let high-is : 2 * (high / 2) ≡ high = omega arith in
        sym (run-above (low / 2) (high / 2) (omega arith) (omega arith) (omega arith)) ∙ (λ i. least_of_run f (low-is i) (high-is i - low-is i))
