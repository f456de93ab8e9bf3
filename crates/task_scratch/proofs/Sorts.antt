-- The sort of the values of a set, row by row.
use Rattle.std.proofs.Common.{◌≡◌, ◌≢◌, ◌<◌, ℕ, ℤ, ◌==◌, Bool, true, false, not, ◌&&◌, ◌||◌, get_or, inl, inr, refl, ap, sym, ◌∙◌, arith, w64, if◌then◌else◌}
use Rattle.std.specs.Int.{bit_at, trailing_zeros}
use Rattle.std.specs.List.{range_with_len}
use Rattle.std.proofs.lemmas.Bool.{cases_lt}
use Rattle.std.proofs.lemmas.Nat.Bits.{bit_at-trailing_zeros}
use Rattle.std.proofs.lemmas.List.FromFn.{get_or-range_with_len, length-range_with_len}
use Rattle.std.proofs.lemmas.List.Sums.{AllPass-from_list_all, list_all-from_AllPass}
use Rattle.sgl_values.specs.declared.fault.Fault.{Fault}
use Rattle.sgl_values.specs.declared.fault.Val.{Val}
use Rattle.sgl_lanes.specs.Lanes.{has, lane_of, EachLane}
use Rattle.sgl_lanes.specs.declared.kind.Lanes.TheVariants.{Numbers, Truths, Unknown}
use Rattle.task_scratch.specs.declared.slot_column.SlotColumn.{SlotColumn}
use Rattle.task_scratch.specs.Columns.{fault_past, value_by, value_in}
use Rattle.task_scratch.specs.Sorts.{all_pass, is_number, is_truth, sort_of}

-- a row that is one of the set, or not, passes
passes : (inside test : Bool) → (inside ≡ true → test ≡ true) → (not inside || test) ≡ true
passes true test is = is refl
passes false test is = refl

passed : (inside test : Bool) → (not inside || test) ≡ true → inside ≡ true → test ≡ true
passed true test is own = is
passed false test is own = absurd (cc)

pub all_from_each : (mask : ℕ) (test : ℕ → Bool) → EachLane mask (λ k. test k ≡ true) → all_pass mask test ≡ true
unfolding all_pass
all_from_each mask test each = list_all-from_AllPass (λ k. not (has mask k) || test k) (range_with_len 0 64)
    (λ k d inside.
    let below : k < 64 = omega (arith, inside, length-range_with_len 0 64) in
    ap (λ j. not (has mask j) || test j) (get_or-range_with_len 0 64 k d below ∙ omega arith)
    ∙ passes (has mask k) (test k) (each k below))

pub each_from_all : (mask : ℕ) (test : ℕ → Bool) → all_pass mask test ≡ true → EachLane mask (λ k. test k ≡ true)
unfolding all_pass
each_from_all mask test all k below inside =
    let at : get_or (range_with_len 0 64) k 0 ≡ k = get_or-range_with_len 0 64 k 0 below ∙ omega arith in
    passed (has mask k) (test k)
    (ap (λ j. not (has mask j) || test j) (sym at)
    ∙ AllPass-from_list_all (λ j. not (has mask j) || test j) (range_with_len 0 64) all k 0 (omega (arith, below, length-range_with_len 0 64)))
    inside

refuted : (b : Bool) → (b ≡ true → ⊥) → b ≡ false
refuted true none = absurd (none refl)
refuted false none = refl

-- a set of 64 bits with none of the 64 rows is empty
none_left : (set : ℕ) → set < 18446744073709551616 → ((k : ℕ) → k < 64 → has set k ≡ false) → set ≡ 0
unfolding has
none_left set small none = elim (cases_lt 0 set) [
  | inl some ↦
      let lowest = bit_at-trailing_zeros w64 set some small in
      let one : (bit_at set (trailing_zeros w64 set) == 1) ≡ true = ap (λ b. b == 1) lowest.1 in
      let no : (bit_at set (trailing_zeros w64 set) == 1) ≡ false = none (trailing_zeros w64 set) lowest.0 in
      absurd (cc)
  | inr zero ↦ omega arith
]

both_false : (a b : Bool) → (a ≡ true → b ≡ false) → (a && b) ≡ false
both_false true b is = is refl
both_false false b is = refl

-- where rows of a set are left out that do not pass, not all pass
pub not_all : (mask left : ℕ) (out test : ℕ → Bool) → left ≢ 0 → left < 18446744073709551616 → ((k : ℕ) → has left k ≡ (has mask k && out k))
    → ((k : ℕ) → test k ≡ true → out k ≡ false) → all_pass mask test ≡ false
not_all mask left out test some small is apart = refuted (all_pass mask test)
    (λ all. some (none_left left small (λ k below. is k ∙ both_false (has mask k) (out k) (λ inside. apart k (each_from_all mask test all k below inside)))))

-- what the tests of a value say of where it stands
number_in : (faulty truths : Bool) (z : ℤ) (f : Fault) → is_number (value_by faulty truths z f) ≡ true → (faulty ≡ false) × (truths ≡ false)
number_in true truths z f is = absurd (cc)
number_in false true z f is = absurd (cc)
number_in false false z f is = (refl, refl)

truth_in : (faulty truths : Bool) (z : ℤ) (f : Fault) → is_truth (value_by faulty truths z f) ≡ true → (faulty ≡ false) × (not truths ≡ false)
truth_in true truths z f is = absurd (cc)
truth_in false true z f is = (refl, refl)
truth_in false false z f is = absurd (cc)

is_number_in : (faulty truths : Bool) (z : ℤ) (f : Fault) → faulty ≡ false → truths ≡ false → is_number (value_by faulty truths z f) ≡ true
is_number_in faulty truths z f out plain = rw (out, plain)

is_truth_in : (faulty truths : Bool) (z : ℤ) (f : Fault) → faulty ≡ false → truths ≡ true → is_truth (value_by faulty truths z f) ≡ true
is_truth_in faulty truths z f out truth = rw (out, truth)

-- the sort by the answers of both tests
sort_is : (mask : ℕ) (value : ℕ → Val) (number truth : Bool) → all_pass mask (λ k. is_number (value k)) ≡ number
    → all_pass mask (λ k. is_truth (value k)) ≡ truth → (if number then Numbers else if truth then Truths else Unknown) ≡ sort_of mask value
sort_is mask value number truth is are = rw (is, are)

-- the same value in each row of the set
all_same : (mask : ℕ) (test : Val → Bool) (v w : ℕ → Val) → EachLane mask (λ k. v k ≡ w k) → (b : Bool) → all_pass mask (λ k. test (v k)) ≡ b
    → all_pass mask (λ k. test (w k)) ≡ b
all_same mask test v w same true all =
    all_from_each mask (λ k. test (w k)) (λ k below inside. ap test (sym (same k below inside)) ∙ each_from_all mask (λ k. test (v k)) all k below inside)
all_same mask test v w same false none = refuted (all_pass mask (λ k. test (w k)))
    (λ all.
    let each = each_from_all mask (λ k. test (w k)) all in
    let both : all_pass mask (λ k. test (v k)) ≡ true =
    all_from_each mask (λ k. test (v k)) (λ k below inside. ap test (same k below inside) ∙ each k below inside) in
    absurd (cc))

pub sort_same : (mask : ℕ) (v w : ℕ → Val) → EachLane mask (λ k. v k ≡ w k) → sort_of mask v ≡ sort_of mask w
sort_same mask v w same =
    sort_is mask w (all_pass mask (λ k. is_number (v k))) (all_pass mask (λ k. is_truth (v k)))
    (all_same mask is_number v w same (all_pass mask (λ k. is_number (v k))) refl) (all_same mask is_truth v w same (all_pass mask (λ k. is_truth (v k))) refl)

pub sort_numbers : (mask : ℕ) (v : ℕ → Val) → EachLane mask (λ k. is_number (v k) ≡ true) → Numbers ≡ sort_of mask v
sort_numbers mask v each = sort_is mask v true (all_pass mask (λ k. is_truth (v k))) (all_from_each mask (λ k. is_number (v k)) each) refl

-- ---- the sort of a column, by the rows of a set that are among the faulty or the truths

module _ (column : SlotColumn) (mask : ℕ) where
  no_numbers : (left : ℕ) (out : ℕ → Bool) → left ≢ 0 → left < 18446744073709551616 → ((k : ℕ) → has left k ≡ (has mask k && out k))
      → ((k : ℕ) → (has column.faulty k ≡ false) × (has column.truths k ≡ false) → out k ≡ false) → all_pass mask (λ k. is_number (value_in column k)) ≡ false
  no_numbers left out some small is apart = not_all mask left out (λ k. is_number (value_in column k)) some small is
      (λ k number. apart k (number_in (has column.faulty k) (has column.truths k) (lane_of column.numbers k) (get_or column.faults k fault_past) number))

  no_truths : (left : ℕ) (out : ℕ → Bool) → left ≢ 0 → left < 18446744073709551616 → ((k : ℕ) → has left k ≡ (has mask k && out k))
      → ((k : ℕ) → (has column.faulty k ≡ false) × (not (has column.truths k) ≡ false) → out k ≡ false) → all_pass mask (λ k. is_truth (value_in column k)) ≡ false
  no_truths left out some small is apart = not_all mask left out (λ k. is_truth (value_in column k)) some small is
      (λ k truth. apart k (truth_in (has column.faulty k) (has column.truths k) (lane_of column.numbers k) (get_or column.faults k fault_past) truth))

  pub sort_faulty : (both : ℕ) → both ≢ 0 → both < 18446744073709551616 → ((k : ℕ) → has both k ≡ (has mask k && has column.faulty k)) → Unknown ≡ sort_of mask (value_in column)
  sort_faulty both some small is = sort_is mask (value_in column) false false
      (no_numbers both (λ k. has column.faulty k) some small is (λ k in_number. in_number.0)) (no_truths both (λ k. has column.faulty k) some small is (λ k in_truth. in_truth.0))

  pub sort_plain : EachLane mask (λ k. (has column.faulty k ≡ false) × (has column.truths k ≡ false)) → Numbers ≡ sort_of mask (value_in column)
  sort_plain each = sort_numbers mask (value_in column) (λ k below inside.
      let is = each k below inside in is_number_in (has column.faulty k) (has column.truths k) (lane_of column.numbers k) (get_or column.faults k fault_past) is.0 is.1)

  pub sort_truths : (both : ℕ) → both ≢ 0 → both < 18446744073709551616 → ((k : ℕ) → has both k ≡ (has mask k && has column.truths k))
      → EachLane mask (λ k. (has column.faulty k ≡ false) × (has column.truths k ≡ true)) → Truths ≡ sort_of mask (value_in column)
  sort_truths both some small is each = sort_is mask (value_in column) false true
      (no_numbers both (λ k. has column.truths k) some small is (λ k in_number. in_number.1))
      (all_from_each mask (λ k. is_truth (value_in column k)) (λ k below inside.
      let at = each k below inside in is_truth_in (has column.faulty k) (has column.truths k) (lane_of column.numbers k) (get_or column.faults k fault_past) at.0 at.1))

  pub sort_mixed : (both rest : ℕ) → both ≢ 0 → both < 18446744073709551616 → ((k : ℕ) → has both k ≡ (has mask k && has column.truths k))
      → rest ≢ 0 → rest < 18446744073709551616 → ((k : ℕ) → has rest k ≡ (has mask k && not (has column.truths k))) → Unknown ≡ sort_of mask (value_in column)
  sort_mixed both rest some small is more little are = sort_is mask (value_in column) false false
      (no_numbers both (λ k. has column.truths k) some small is (λ k in_number. in_number.1))
      (no_truths rest (λ k. not (has column.truths k)) more little are (λ k in_truth. in_truth.1))
