-- A row passes where it is in the group that is asked for and is not left out.
use Rattle.std.proofs.Common.{◌≡◌, ℤ, ◌≤◌, Bool, true, false, not, ◌&&◌, cond, List, [], ◌∷◌, map, length, Some, refl, ap, sym, ◌∙◌, arith}
use Rattle.std.specs.Ordering.{int_eq}
use Rattle.std.specs.Cmp.Lexicographic.{pointwise}
use Rattle.std.proofs.lemmas.List.{length-map}
use Rattle.sgl_values.specs.World.{Row}
use Rattle.sgl_typed.specs.declared.script.TTest.{TTest}
use Rattle.sgl_typed.specs.Value.{attribute}
use Rattle.battle_algebra.specs.Ways.{attr_of, is_unequal_test}
use Rattle.row_groups.specs.Keys.{along, four_of, has_key}
use Rattle.row_groups.proofs.Filters.{map-map}
use Rattle.row_groups.proofs.Fours.{same_fours}
use Rattle.test_boxes.specs.Others.{is_unlike, other_asked, other_of}
use Rattle.test_boxes.specs.Readings.{grouping, is_alike_at, passes_unequal, row_key, unequals}
use Rattle.test_boxes.specs.declared.reading.Reading.{Reading}

-- ---- the group

-- the row has the key that is asked for
pub keyed : (how : Reading) (right : TTest → ℤ) (tests : List TTest) (row : Row) → length (grouping how tests) ≤ 4
    → has_key (map attr_of (grouping how tests)) (four_of (map right (grouping how tests))) row ≡ pointwise int_eq (row_key (grouping how tests) row) (map right (grouping how tests))
keyed how right tests row few =
    let values = length-map (grouping how tests) (λ (t : TTest). attribute (attr_of t) row) in
    ap (λ zs. pointwise int_eq (four_of zs) (four_of (map right (grouping how tests)))) (map-map attr_of (λ attr. attribute attr row) (grouping how tests))
    ∙ same_fours (row_key (grouping how tests) row) (map right (grouping how tests)) (values ∙ sym (length-map (grouping how tests) right)) (omega (arith, few, values))

-- ---- the unequal test

none-unequal : (right : TTest → ℤ) (tests : List TTest) (row : Row) → length (unequals tests) ≡ 0 → passes_unequal right tests row ≡ true
none-unequal right [] row none = refl
none-unequal right (test ∷ tests) row none = by (is_unequal_test test) (none-unequal right tests row) none
  where
    by : (b : Bool) → (length (unequals tests) ≡ 0 → passes_unequal right tests row ≡ true) → length (cond b (test ∷ unequals tests) (unequals tests)) ≡ 0
        → (cond b (not (is_alike_at right row test)) true && passes_unequal right tests row) ≡ true
    by true later none = absurd (omega (arith, none))
    by false later none = later none

with-rest : (e rest : Bool) → rest ≡ true → (not e && rest) ≡ not e
with-rest true rest h = refl
with-rest false rest h = h

other-more : (right : TTest → ℤ) (test : TTest) (tests : List TTest) (row : Row) (b : Bool)
    → (length (unequals tests) ≤ 1 → passes_unequal right tests row ≡ is_unlike (other_asked right tests) (along (other_of tests) row))
    → length (cond b (test ∷ unequals tests) (unequals tests)) ≤ 1
    → (cond b (not (is_alike_at right row test)) true && passes_unequal right tests row)
    ≡ is_unlike (cond b (Some (right test)) (other_asked right tests)) (along (cond b (Some (attr_of test)) (other_of tests)) row)
other-more right test tests row true later few = with-rest (is_alike_at right row test) (passes_unequal right tests row) (none-unequal right tests row (omega (arith, few)))
other-more right test tests row false later few = later few

-- the row passes it where its value is not the one that is left out
pub other_is : (right : TTest → ℤ) (tests : List TTest) (row : Row) → length (unequals tests) ≤ 1
    → passes_unequal right tests row ≡ is_unlike (other_asked right tests) (along (other_of tests) row)
other_is right [] row few = refl
other_is right (test ∷ tests) row few = other-more right test tests row (is_unequal_test test) (other_is right tests row) few
