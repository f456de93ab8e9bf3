-- The right sides of tests, one by one and all at once.
use Rattle.std.proofs.Common.{◌≡◌, ℕ, ℤ, ◌+◌, ◌<◌, List, [], ◌∷◌, map, length, drop, get_or, Option, Some, None, Result, Ok, Err, refl, ap, sym, ◌∙◌}
use Rattle.std.specs.Prelude.{◌&&◌}
use Rattle.std.specs.List.{filter}
use Rattle.std.proofs.lemmas.List.{at_drop_more}
use Rattle.sgl_values.specs.World.{Row}
use Rattle.sgl_values.specs.declared.fault.Fault.{Fault}
use Rattle.sgl_values.specs.declared.fault.Val.{Val}
use Rattle.sgl_values.specs.declared.fault.Val.TheVariants.{F}
use Rattle.sgl_typed.specs.declared.script.TAgg.{TAgg}
use Rattle.sgl_typed.specs.declared.script.TTest.{TTest}
use Rattle.sgl_typed.specs.Value.{Context}
use Rattle.sgl_typed.specs.Aggregate.{aggregate, made, meets, number_in, passes, right_side, right_sides, scanned, simple_value, with_first}
use Rattle.sgl_evaluate.specs.Rights.{fault_before, first_fault_of, number_or_zero, passes_each, right_of}

-- ---- the first fault

pub fault_here : (c : Context) (tests : List TTest) (i : ℕ) (test : TTest) (fault : Fault) → i < length tests → test ≡ get_or tests i test
    → Err fault ≡ number_in (simple_value c (right_side test)) → first_fault_of c (drop i tests) ≡ first_fault_of c tests
    → Some fault ≡ first_fault_of c tests
fault_here c tests i test fault lt is found before =
    ap (λ r. fault_before r (first_fault_of c (drop (i + 1) tests))) found
    ∙ ap (λ (t : TTest). fault_before (number_in (simple_value c (right_side t))) (first_fault_of c (drop (i + 1) tests))) is
    ∙ sym (at_drop_more (first_fault_of c) tests i test lt) ∙ before

pub fault_later : (c : Context) (tests : List TTest) (i : ℕ) (test : TTest) (z : ℤ) → i < length tests → test ≡ get_or tests i test
    → Ok z ≡ number_in (simple_value c (right_side test)) → first_fault_of c (drop i tests) ≡ first_fault_of c tests
    → first_fault_of c (drop (i + 1) tests) ≡ first_fault_of c tests
fault_later c tests i test z lt is found before =
    ap (λ r. fault_before r (first_fault_of c (drop (i + 1) tests))) found
    ∙ ap (λ (t : TTest). fault_before (number_in (simple_value c (right_side t))) (first_fault_of c (drop (i + 1) tests))) is
    ∙ sym (at_drop_more (first_fault_of c) tests i test lt) ∙ before

-- ---- all right sides

abbrev rights_by : Option Fault → List ℤ → Result (List ℤ) Fault
rights_by None zs = Ok zs
rights_by (Some fault) zs = Err fault

one-more : (r : Result ℤ Fault) (later : Option Fault) (zs : List ℤ) → with_first r (rights_by later zs) ≡ rights_by (fault_before r later) (number_or_zero r ∷ zs)
one-more (Ok z) None zs = refl
one-more (Ok z) (Some fault) zs = refl
one-more (Err fault) later zs = refl

all-rights : (c : Context) (tests : List TTest) → right_sides c tests ≡ rights_by (first_fault_of c tests) (map (right_of c) tests)
all-rights c [] = refl
all-rights c (test ∷ tests) =
    ap (with_first (number_in (simple_value c (right_side test)))) (all-rights c tests)
    ∙ one-more (number_in (simple_value c (right_side test))) (first_fault_of c tests) (map (right_of c) tests)

passes-same : (c : Context) (tests : List TTest) (row : Row) → passes c.unit tests (map (right_of c) tests) row ≡ passes_each c tests row
passes-same c [] row = refl
passes-same c (test ∷ tests) row = ap (λ b. meets c.unit row test (right_of c test) && b) (passes-same c tests row)

-- ---- for callers

-- where a right side has a fault
pub rights_fault : (c : Context) (tests : List TTest) (fault : Fault) → Some fault ≡ first_fault_of c tests → right_sides c tests ≡ Err fault
rights_fault c tests fault found = all-rights c tests ∙ ap (λ f. rights_by f (map (right_of c) tests)) (sym found)

-- where none has
pub rights_numbers : (c : Context) (tests : List TTest) → None ≡ first_fault_of c tests → right_sides c tests ≡ Ok (map (right_of c) tests)
rights_numbers c tests found = all-rights c tests ∙ ap (λ f. rights_by f (map (right_of c) tests)) (sym found)

pub passes_is : (c : Context) (tests : List TTest) → passes c.unit tests (map (right_of c) tests) ≡ passes_each c tests
passes_is c tests i row = passes-same c tests row i

-- ---- aggregates

pub aggregate_fault : (agg : TAgg) (c : Context) (fault : Fault) → Some fault ≡ first_fault_of c agg.tests → F fault ≡ aggregate agg c c.slots
aggregate_fault agg c fault found = sym (ap (scanned agg c.unit c.world.rows) (rights_fault c agg.tests fault found))

pub aggregate_fold : (agg : TAgg) (c : Context) (result : Val) → None ≡ first_fault_of c agg.tests
    → result ≡ made agg.kind agg c.unit (filter (passes_each c agg.tests) c.world.rows) → result ≡ aggregate agg c c.slots
aggregate_fold agg c result found folded =
    folded
    ∙ ap (λ p. made agg.kind agg c.unit (filter p c.world.rows)) (sym (passes_is c agg.tests))
    ∙ sym (ap (scanned agg c.unit c.world.rows) (rights_numbers c agg.tests found))
