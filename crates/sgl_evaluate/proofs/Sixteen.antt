-- A call of an aggregate reads at most sixteen arguments.
use Rattle.std.proofs.Common.{◌≡◌, ℕ, zero, suc, ◌+◌, ◌<◌, ◌≤◌, true, pos, List, [], ◌∷◌, take, refl, ap, arith}
use Rattle.std.specs.List.{list_all}
use Rattle.std.specs.Prelude.{nat_lt, nat_le, slice_get, slice_index_or}
use Rattle.std.proofs.lemmas.Bool.{and_parts}
use Rattle.std.proofs.lemmas.Bool.Decides.{nat_tests}
use Rattle.sgl_values.specs.declared.fault.Val.{Val}
use Rattle.sgl_values.specs.declared.fault.Val.TheVariants.{N}
use Rattle.sgl_typed.specs.declared.schema.Schema.{Schema}
use Rattle.sgl_typed.specs.declared.script.TAgg.{TAgg}
use Rattle.sgl_typed.specs.declared.script.TTest.{TTest}
use Rattle.sgl_typed.specs.declared.script.TTest.TheVariants.{Compare, Within}
use Rattle.sgl_typed.specs.Aggregate.{aggregate, call_of, number_in, right_side, right_sides, scanned, with_first}
use Rattle.sgl_typed.specs.Laws.{AgreeOn}
use Rattle.sgl_typed.specs.Reads.{below, reads_only}
use Rattle.sgl_typed.specs.Value.{Context}
use Rattle.sgl_typed.specs.WellFormed.{Body, agg_fits, definition_body, is_number, kind_of, params_from, test_fits}
use Rattle.sgl_typed.proofs.Forms.{form_of}
use Rattle.sgl_typed.proofs.Reading.{value-reads}
use Rattle.sgl_typed.proofs.Scope.{both_true, formed-reads, in_scope, number_formed}

-- ---- the first sixteen

take-index : (n : ℕ) (xs : List Val) (i : ℕ) (d : Val) → i < n → slice_index_or (take n xs) i d ≡ slice_index_or xs i d
take-index zero xs i d lt = absurd (omega (arith, lt))
take-index (suc n) [] i d lt = refl
take-index (suc n) (x ∷ xs) zero d lt = refl
take-index (suc n) (x ∷ xs) (suc i) d lt = take-index n xs i d (omega (arith, lt))

sixteen-agree : (args : List Val) → AgreeOn (below 16) (take 16 args) args
sixteen-agree args = record { agree = λ slot passes. take-index 16 args slot (N (pos 0)) (grind (arith, nat_tests)) }

params-below : (number params bound : ℕ) → number + params ≤ bound → in_scope (params_from number params) (below bound) ≡ true
params-below number zero bound le = refl
params-below number (suc params) bound le =
    let first : nat_lt number bound ≡ true = grind (arith, nat_tests) in
    both_true _ _ first (params-below (number + 1) params bound (omega (arith, le)))

-- ---- tests

right-number : (b : Body) (test : TTest) → test_fits b test ≡ true → is_number (kind_of b (right_side test)) ≡ true
right-number b (Compare attr op right) fits = (and_parts _ _ fits).1
right-number b (Within x y radius) fits = (and_parts _ _ fits).1

rights-sixteen : (c : Context) (args : List Val) (b : Body) (tests : List TTest) → in_scope b.slots (below 16) ≡ true → list_all (test_fits b) tests ≡ true
    → right_sides (record c { slots = take 16 args }) tests ≡ right_sides (record c { slots = args }) tests
rights-sixteen c args b [] scope fits = refl
rights-sixteen c args b (test ∷ tests) scope fits =
    let parts : (test_fits b test ≡ true) × (list_all (test_fits b) tests ≡ true) = and_parts _ _ fits in
    let number : is_number (kind_of b (right_side test)) ≡ true = right-number b test parts.0 in
    let reads : reads_only (right_side test) (below 16) ≡ true = formed-reads (right_side test) b (below 16) (number_formed _ number) scope in
    let same = value-reads (right_side test) (below 16) (λ agg args'. N (pos 0)) c (take 16 args) args reads (sixteen-agree args) in
    λ i. with_first (number_in (same i)) (rights-sixteen c args b tests scope parts.1 i)

-- ---- aggregates

aggregate-sixteen : (schema : Schema) (agg : TAgg) (c : Context) (args : List Val) → agg_fits schema agg ≡ true → aggregate agg c (take 16 args) ≡ aggregate agg c args
aggregate-sixteen schema agg c args fits =
    let all_but_tests = and_parts _ _ fits in
    let few : nat_le agg.params 16 ≡ true = (and_parts _ _ (and_parts _ _ all_but_tests.0).0).0 in
    let small : agg.params ≤ 16 = grind (arith, nat_tests) in
    let scope : in_scope (params_from 0 agg.params) (below 16) ≡ true = params-below 0 agg.params 16 (omega (arith, small)) in
    ap (scanned agg c.unit c.world.rows) (rights-sixteen c args (definition_body schema agg.params) agg.tests scope all_but_tests.1)

call-sixteen : (schema : Schema) (aggs : List TAgg) (c : Context) (agg : ℕ) (args : List Val) → list_all (agg_fits schema) aggs ≡ true
    → call_of c (slice_get aggs agg) (take 16 args) ≡ call_of c (slice_get aggs agg) args
call-sixteen schema [] c agg args fits = refl
call-sixteen schema (first ∷ aggs) c zero args fits = aggregate-sixteen schema first c args (and_parts _ _ fits).0
call-sixteen schema (first ∷ aggs) c (suc agg) args fits = call-sixteen schema aggs c agg args (and_parts _ _ fits).1

pub calls_read_sixteen : (c : Context) (agg : ℕ) (args : List Val) → call_of c (slice_get c.script.aggs agg) (take 16 args) ≡ call_of c (slice_get c.script.aggs agg) args
calls_read_sixteen c agg args = call-sixteen c.script.schema c.script.aggs c agg args (form_of c.script).aggs
