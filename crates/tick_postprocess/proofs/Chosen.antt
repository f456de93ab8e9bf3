-- Assignments whose right sides are all known to be numbers.
use Rattle.std.proofs.Common.{◌≡◌, ◌≢◌, ◌+◌, ◌<◌, ◌≤◌, ◌==◌, ◌⊎◌, inl, inr, ◌∙◌, ℕ, zero, suc, ℤ, pos, Bool, true, false, if◌then◌else◌, List, [], ◌∷◌, length, drop, slice_index_or, slice_set, None, ap, refl, sym, arith}
use Rattle.std.proofs.lemmas.Bool.{cases_Bool}
use Rattle.std.proofs.lemmas.Bool.Decides.{nat_tests}
use Rattle.std.proofs.lemmas.Grind.{get_or-set_at}
use Rattle.std.proofs.lemmas.List.{get_or-set_other, length-set}
use Rattle.sgl_values.specs.ItemOrder.{fault_cmp}
use Rattle.sgl_values.specs.Least.{least_of}
use Rattle.sgl_values.specs.declared.fault.Val.{Val}
use Rattle.sgl_values.specs.declared.fault.Val.TheVariants.{N, B, F}
use Rattle.sgl_typed.specs.Aggregate.{simple_value}
use Rattle.sgl_typed.specs.Tick.{assigned, faults_of, with_values}
use Rattle.sgl_typed.specs.Value.{Context}
use Rattle.sgl_typed.specs.declared.script.TRule.{TRule}
use Rattle.sgl_lanes.specs.Lanes.{lane_of}
use Rattle.sgl_lanes.specs.declared.values.LaneValues.{LaneValues}
use Rattle.tick_postprocess.specs.Blocks.{chosen, AreKnown, AreNumbers}
use Rattle.tick_postprocess.proofs.BlockSteps.{number_known}

pub length-with_values : (pairs : List (ℕ × Val)) (start : List ℤ) → length (with_values pairs start) ≡ length start
length-with_values [] start = refl
length-with_values ((attr, N z) ∷ more) start = length-set (with_values more start) attr z ∙ length-with_values more start
length-with_values ((attr, B b) ∷ more) start = length-with_values more start
length-with_values ((attr, F f) ∷ more) start = length-with_values more start

-- a rule that does not assign the attribute is passed over
pub chosen_next : (rules : List TRule) (known : List LaneValues) (attr at : ℕ) (old : List ℤ) (rule : TRule) → at < length rules → length rules ≤ length known → rule ≡ slice_index_or rules at rule → rule.attr ≢ attr
    → chosen (drop at rules) (drop at known) attr old ≡ chosen (drop (at + 1) rules) (drop (at + 1) known) attr old
chosen_next [] known attr at old rule lt long is apart = absurd (omega (arith, lt))
chosen_next (first ∷ rules) [] attr at old rule lt long is apart = absurd (omega (arith, long))
chosen_next (first ∷ rules) (values ∷ known) attr zero old rule lt long is apart =
    let distinct : first.attr ≢ attr = λ same. apart (ap (λ (r : TRule). r.attr) is ∙ same) in
    let other : (first.attr == attr) ≡ false = grind (arith, nat_tests, distinct) in
    ap (λ (own : Bool). if own then values.numbers else chosen rules known attr old) other
chosen_next (first ∷ rules) (values ∷ known) attr (suc at) old rule lt long is apart =
    let next : suc (at + 1) ≡ suc at + 1 = omega arith in
    chosen_next rules known attr at old rule (omega (arith, lt)) (omega (arith, long)) is apart
    ∙ ap (λ (n : ℕ). chosen (drop n (first ∷ rules)) (drop n (values ∷ known)) attr old) next

module _ (c : Context) (lane : ℕ) where
  -- the value of the first right side
  first_number : (rule : TRule) (rules : List TRule) (values : LaneValues) (known : List LaneValues) → AreNumbers (values ∷ known) (length (rule ∷ rules)) → AreKnown (values ∷ known) lane c (rule ∷ rules)
      → simple_value c rule.value ≡ N (lane_of values.numbers lane)
  first_number rule rules values known numbers holds = number_known lane (values ∷ known) c (rule ∷ rules) 0 rule values numbers holds (omega arith) refl refl

  numbers_rest : (rule : TRule) (rules : List TRule) (values : LaneValues) (known : List LaneValues) → AreNumbers (values ∷ known) (length (rule ∷ rules)) → AreNumbers known (length rules)
  numbers_rest rule rules values known numbers = record { long = let long = numbers.long in omega (arith, long); numbers = λ at held lt. numbers.numbers (suc at) held (omega (arith, lt)) }

  known_rest : (rule : TRule) (rules : List TRule) (values : LaneValues) (known : List LaneValues) → AreKnown (values ∷ known) lane c (rule ∷ rules) → AreKnown known lane c rules
  known_rest rule rules values known holds at held other below within is = holds (suc at) held other (omega (arith, below)) (omega (arith, within)) is

  -- there is no fault
  pub no_faults : (rules : List TRule) (known : List LaneValues) → AreNumbers known (length rules) → AreKnown known lane c rules → least_of fault_cmp (faults_of (assigned c rules)) ≡ None
  no_faults [] known numbers holds = refl
  no_faults (rule ∷ rules) [] numbers holds = let long = numbers.long in absurd (omega (arith, long))
  no_faults (rule ∷ rules) (values ∷ known) numbers holds =
      ap (λ (v : Val). least_of fault_cmp (faults_of ((rule.attr, v) ∷ assigned c rules))) (first_number rule rules values known numbers holds)
      ∙ no_faults rules known (numbers_rest rule rules values known numbers) (known_rest rule rules values known holds)

  -- the new value of an attribute is the number of its column
  pub chosen_value : (rules : List TRule) (known : List LaneValues) (attr : ℕ) (old : List ℤ) (start : List ℤ) → AreNumbers known (length rules) → AreKnown known lane c rules → attr < length start
      → slice_index_or start attr (pos 0) ≡ lane_of old lane → slice_index_or (with_values (assigned c rules) start) attr (pos 0) ≡ lane_of (chosen rules known attr old) lane
  chosen_value [] known attr old start numbers holds inside is = is
  chosen_value (rule ∷ rules) [] attr old start numbers holds inside is = let long = numbers.long in absurd (omega (arith, long))
  chosen_value (rule ∷ rules) (values ∷ known) attr old start numbers holds inside is =
      ap (λ (v : Val). slice_index_or (with_values ((rule.attr, v) ∷ assigned c rules) start) attr (pos 0)) (first_number rule rules values known numbers holds)
      ∙ split (cases_Bool (rule.attr == attr)) (chosen_value rules known attr old start (numbers_rest rule rules values known numbers) (known_rest rule rules values known holds) inside is)
    where
      number : ℤ
      number = lane_of values.numbers lane

      rest : List ℤ
      rest = with_values (assigned c rules) start

      column : Bool → List ℤ
      column own = if own then values.numbers else chosen rules known attr old

      split : ((rule.attr == attr) ≡ true) ⊎ ((rule.attr == attr) ≡ false) → slice_index_or rest attr (pos 0) ≡ lane_of (chosen rules known attr old) lane
          → slice_index_or (slice_set rest rule.attr number) attr (pos 0) ≡ lane_of (column (rule.attr == attr)) lane
      split (inl same) behind =
          let at : attr ≡ rule.attr = grind (arith, nat_tests, same) in
          get_or-set_at rest rule.attr attr number (pos 0) at (omega (arith, at, inside, length-with_values (assigned c rules) start))
          ∙ ap (λ (own : Bool). lane_of (column own) lane) (sym same)
      split (inr other) behind =
          let apart : attr ≢ rule.attr = grind (arith, nat_tests, other) in
          get_or-set_other rest rule.attr attr number (pos 0) apart
          ∙ behind
          ∙ ap (λ (own : Bool). lane_of (column own) lane) (sym other)
