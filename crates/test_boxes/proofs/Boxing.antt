-- Tests as a key and two ranges.
use Rattle.std.proofs.Common.{◌≡◌, ℕ, ℤ, pos, ◌≤◌, Bool, true, false, not, ◌&&◌, ◌||◌, cond, List, [], ◌∷◌, map, get_or, Option, Some, None, inl, inr, refl, ap, sym, ◌∙◌, subst, arith}
use Rattle.std.specs.Prelude.{unsigned_abs, length}
use Rattle.std.specs.Ordering.{int_eq}
use Rattle.std.specs.Cmp.Lexicographic.{pointwise}
use Rattle.std.proofs.lemmas.Bool.{and_parts, cases_lt, eqb-true, false≢true, le-leb}
use Rattle.std.proofs.lemmas.List.{get_or_past}
use Rattle.sgl_values.specs.Range.{in_range}
use Rattle.sgl_values.specs.World.{Row, IsRow}
use Rattle.sgl_values.specs.declared.operator.CmpOp.{CmpOp}
use Rattle.sgl_values.specs.declared.operator.CmpOp.TheVariants.{Eq, Ne, Lt, Le, Gt, Ge}
use Rattle.sgl_typed.specs.declared.script.Attr.{Attr}
use Rattle.sgl_typed.specs.declared.script.Attr.TheVariants.{Key, Const}
use Rattle.sgl_typed.specs.declared.script.TTest.{TTest}
use Rattle.sgl_typed.specs.declared.script.TTest.TheVariants.{Compare, Within}
use Rattle.sgl_typed.specs.Value.{attribute, compares}
use Rattle.battle_algebra.specs.Ways.{attr_of, covered, is_along, is_equal, is_range, is_range_test, is_unequal, same_attr}
use Rattle.row_groups.specs.Keys.{along}
use Rattle.test_boxes.specs.declared.reading.Reading.{Reading}
use Rattle.test_boxes.specs.declared.reading.Reading.TheVariants.{Plain, Away, Alike}
use Rattle.test_boxes.specs.declared.span.Span.{Span}
use Rattle.test_boxes.specs.Ranges.{holds, meets_along, meets_number, passes_along, IsSpan}
use Rattle.test_boxes.specs.Readings.{compares_read, grouping, groups_by, is_alike, is_plain, meets_read, passes_read, row_key}

-- ---- attributes

same_attr-true : (a b : Attr) → same_attr a b ≡ true → a ≡ b
same_attr-true Key Key h = refl
same_attr-true Key (Const j) h = absurd (false≢true h)
same_attr-true (Const i) Key h = absurd (false≢true h)
same_attr-true (Const i) (Const j) h = ap Const (eqb-true i j h)

-- a range test of an attribute reads the number of the row along it
pub along_test : (axis : Option Attr) (test : TTest) (row : Row) → is_along axis test ≡ true → attribute (attr_of test) row ≡ along axis row
along_test None test row h = absurd (false≢true h)
along_test (Some attr) test row h = ap (λ (a : Attr). attribute a row) (same_attr-true (attr_of test) attr (and_parts _ _ h).1)

-- no other test is along one
range-along : (axis : Option Attr) (test : TTest) → is_range_test test ≡ false → is_along axis test ≡ false
range-along None test h = refl
range-along (Some attr) test h = ap (λ b. b && same_attr (attr_of test) attr) h

-- a test along an axis says the same of the row and of its number
test-along : (axis : Option Attr) (right : TTest → ℤ) (test : TTest) (row : Row)
    → meets_along axis right (along axis row) test ≡ cond (is_along axis test) (meets_number test (attribute (attr_of test) row) (right test)) true
test-along axis right test row = by (is_along axis test) refl
  where
    by : (b : Bool) → is_along axis test ≡ b
        → cond b (meets_number test (along axis row) (right test)) true ≡ cond b (meets_number test (attribute (attr_of test) row) (right test)) true
    by true h = ap (λ v. meets_number test v (right test)) (sym (along_test axis test row h))
    by false h = refl

-- ---- truths

join-key : (k t p q : Bool) → (k && (t && (p && q))) ≡ ((k && t) && (p && q))
join-key true t p q = refl
join-key false t p q = refl

-- a test that holds along one or both axes
join-range : (hx hy c t p q : Bool) → (hx || hy) ≡ true → (c && (t && (p && q))) ≡ (t && ((cond hx c true && p) && (cond hy c true && q)))
join-range true true true t p q h = refl
join-range true true false true p q h = refl
join-range true true false false p q h = refl
join-range true false true t p q h = refl
join-range true false false true p q h = refl
join-range true false false false p q h = refl
join-range false true true t p q h = refl
join-range false true false true true q h = refl
join-range false true false true false q h = refl
join-range false true false false p q h = refl
join-range false false c t p q h = absurd (false≢true h)

-- a test that is no range test
no-range : (c hx hy k p q : Bool) → hx ≡ false → hy ≡ false → (k && (p && q)) ≡ (k && ((cond hx c true && p) && (cond hy c true && q)))
no-range c hx hy k p q nx ny = rw (nx, ny) refl

-- ---- one test more

step : (how : Reading) (op : CmpOp) (hx hy : Bool) (test : TTest) (f right : TTest → ℤ) (g : List TTest) (rest p q : Bool)
    → is_plain how ≡ false → (is_range op ≡ false → hx ≡ false) → (is_range op ≡ false → hy ≡ false) → (not (is_range op) || (hx || hy)) ≡ true
    → rest ≡ (pointwise int_eq (map f g) (map right g) && (p && q))
    → (compares_read how op (f test) (right test) && rest)
    ≡ (pointwise int_eq (map f (cond (is_equal op || (is_unequal op && is_alike how)) (test ∷ g) g)) (map right (cond (is_equal op || (is_unequal op && is_alike how)) (test ∷ g) g))
    && ((cond hx (compares op (f test) (right test)) true && p) && (cond hy (compares op (f test) (right test)) true && q)))
step how Eq hx hy test f right g rest p q np nx ny cover ih =
    ap (λ r. int_eq (f test) (right test) && r) ih ∙ join-key (int_eq (f test) (right test)) (pointwise int_eq (map f g) (map right g)) p q
    ∙ no-range (int_eq (f test) (right test)) hx hy ((int_eq (f test) (right test)) && pointwise int_eq (map f g) (map right g)) p q (nx refl) (ny refl)
step Plain Ne hx hy test f right g rest p q np nx ny cover ih = absurd (false≢true (sym np))
step Away Ne hx hy test f right g rest p q np nx ny cover ih =
    ih ∙ no-range (not (int_eq (f test) (right test))) hx hy (pointwise int_eq (map f g) (map right g)) p q (nx refl) (ny refl)
step Alike Ne hx hy test f right g rest p q np nx ny cover ih =
    ap (λ r. int_eq (f test) (right test) && r) ih ∙ join-key (int_eq (f test) (right test)) (pointwise int_eq (map f g) (map right g)) p q
    ∙ no-range (not (int_eq (f test) (right test))) hx hy ((int_eq (f test) (right test)) && pointwise int_eq (map f g) (map right g)) p q (nx refl) (ny refl)
step how Lt hx hy test f right g rest p q np nx ny cover ih =
    ap (λ r. compares Lt (f test) (right test) && r) ih ∙ join-range hx hy (compares Lt (f test) (right test)) (pointwise int_eq (map f g) (map right g)) p q cover
step how Le hx hy test f right g rest p q np nx ny cover ih =
    ap (λ r. compares Le (f test) (right test) && r) ih ∙ join-range hx hy (compares Le (f test) (right test)) (pointwise int_eq (map f g) (map right g)) p q cover
step how Gt hx hy test f right g rest p q np nx ny cover ih =
    ap (λ r. compares Gt (f test) (right test) && r) ih ∙ join-range hx hy (compares Gt (f test) (right test)) (pointwise int_eq (map f g) (map right g)) p q cover
step how Ge hx hy test f right g rest p q np nx ny cover ih =
    ap (λ r. compares Ge (f test) (right test) && r) ih ∙ join-range hx hy (compares Ge (f test) (right test)) (pointwise int_eq (map f g) (map right g)) p q cover

-- the same of a test of either kind
test-more : (how : Reading) (test : TTest) (right : TTest → ℤ) (row : Row) (g : List TTest) (x y : Option Attr) (rest p q : Bool)
    → is_plain how ≡ false → (not (is_range_test test) || (is_along x test || is_along y test)) ≡ true
    → rest ≡ (pointwise int_eq (row_key g row) (map right g) && (p && q))
    → (meets_read how row test (right test) && rest)
    ≡ (pointwise int_eq (row_key (cond (groups_by how test) (test ∷ g) g) row) (map right (cond (groups_by how test) (test ∷ g) g))
    && ((cond (is_along x test) (meets_number test (attribute (attr_of test) row) (right test)) true && p) && (cond (is_along y test) (meets_number test (attribute (attr_of test) row) (right test)) true && q)))
test-more how (Compare attr op value) right row g x y rest p q np cover ih =
    let test : TTest = Compare attr op value in
    step how op (is_along x test) (is_along y test) test (λ t. attribute (attr_of t) row) right g rest p q np (range-along x test) (range-along y test) cover ih
test-more how (Within a b radius) right row g x y rest p q np cover ih =
    let test : TTest = Within a b radius in
    ih ∙ no-range true (is_along x test) (is_along y test) (pointwise int_eq (row_key g row) (map right g)) p q (range-along x test refl) (range-along y test refl)

-- ---- a row passes all tests where its key is the one asked for, and its two numbers pass the range tests

pub boxed : (how : Reading) (right : TTest → ℤ) (tests : List TTest) (row : Row) (x y : Option Attr) → is_plain how ≡ false → covered x y tests ≡ true
    → passes_read how right tests row
    ≡ (pointwise int_eq (row_key (grouping how tests) row) (map right (grouping how tests))
    && (passes_along x right tests (along x row) && passes_along y right tests (along y row)))
boxed how right [] row x y np cover = refl
boxed how right (test ∷ tests) row x y np cover =
    let parts = and_parts (not (is_range_test test) || (is_along x test || is_along y test)) (covered x y tests) cover in
    test-more how test right row (grouping how tests) x y
    (passes_read how right tests row) (passes_along x right tests (along x row)) (passes_along y right tests (along y row))
    np parts.0 (boxed how right tests row x y np parts.1)
    ∙ ap (λ b. pointwise int_eq (row_key (grouping how (test ∷ tests)) row) (map right (grouping how (test ∷ tests)))
    && ((b && passes_along x right tests (along x row))
    && (cond (is_along y test) (meets_number test (attribute (attr_of test) row) (right test)) true && passes_along y right tests (along y row))))
    (sym (test-along x right test row))
    ∙ ap (λ b. pointwise int_eq (row_key (grouping how (test ∷ tests)) row) (map right (grouping how (test ∷ tests)))
    && ((meets_along x right (along x row) test && passes_along x right tests (along x row)) && (b && passes_along y right tests (along y row))))
    (sym (test-along y right test row))

-- ---- the same of spans, for rows of a world

value-in : (z : ℤ) → unsigned_abs z ≤ 1000000000000 → in_range z ≡ true
value-in z h = le-leb (unsigned_abs z) 1000000000000 h

-- the value of an attribute is in the range of values
pub attribute_in : (width : ℕ) (attr : Attr) (row : Row) → IsRow width row → in_range (attribute attr row) ≡ true
attribute_in width Key row is = value-in (pos row.key) (omega (arith, is.key_fits))
attribute_in width (Const i) row is = elim (cases_lt i (length row.values)) [
  | inl lt ↦ value-in (get_or row.values i (pos 0)) (is.in_range i (pos 0) lt)
  | inr le ↦ let P : ℤ → Type 0 = λ z. in_range z ≡ true in subst P (sym (get_or_past row.values i (pos 0) le)) refl
]

along-in : (width : ℕ) (axis : Option Attr) (row : Row) → IsRow width row → in_range (along axis row) ≡ true
along-in width None row is = refl
along-in width (Some attr) row is = attribute_in width attr row is

-- a span tells of the numbers of rows whether they pass
pub along_held : (width : ℕ) (axis : Option Attr) (right : TTest → ℤ) (tests : List TTest) (row : Row) (span : Span) → IsRow width row → IsSpan span axis right tests
    → holds span (along axis row) ≡ passes_along axis right tests (along axis row)
along_held width axis right tests row span is spans = spans (along axis row) ∙ ap (λ b. b && passes_along axis right tests (along axis row)) (along-in width axis row is)

-- a row of a world passes all tests where its key is the one asked for, and its two numbers lie in the spans
pub boxed_row : (width : ℕ) (how : Reading) (right : TTest → ℤ) (tests : List TTest) (row : Row) (x y : Option Attr) (across down : Span)
    → is_plain how ≡ false → covered x y tests ≡ true → IsRow width row → IsSpan across x right tests → IsSpan down y right tests
    → passes_read how right tests row
    ≡ (pointwise int_eq (row_key (grouping how tests) row) (map right (grouping how tests)) && (holds across (along x row) && holds down (along y row)))
boxed_row width how right tests row x y across down np cover is spans_x spans_y =
    boxed how right tests row x y np cover
    ∙ (λ i. pointwise int_eq (row_key (grouping how tests) row) (map right (grouping how tests))
    && (sym (along_held width x right tests row across is spans_x) i && sym (along_held width y right tests row down is spans_y) i))
