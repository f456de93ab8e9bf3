-- The rows that pass are among those of their group whose values lie in two spans.
use Rattle.std.proofs.Common.{◌≡◌, ℕ, ℤ, ◌<◌, Bool, true, false, ◌&&◌, cond, List, [], ◌∷◌, map, length, get_or, Option, Some, None, refl, ap, sym, ◌∙◌, subst}
use Rattle.std.specs.Prelude.{filter, All}
use Rattle.std.specs.Cmp.Lexicographic.{pointwise, pointwise_decides}
use Rattle.std.specs.List.Sorted.{IsPermutation}
use Rattle.std.specs.Ordering.{int_eq}
use Rattle.std.proofs.lemmas.Bool.{and_parts}
use Rattle.std.proofs.lemmas.Bool.Decides.{Decides-int_eq}
use Rattle.std.proofs.lemmas.List.Elements.{All-filter}
use Rattle.std.proofs.lemmas.List.Sorted.{All-permutation, IsPermutation-sym}
use Rattle.sgl_values.specs.World.{Row, IsRow, row_at}
use Rattle.sgl_values.specs.declared.operator.CmpOp.TheVariants.{Eq, Ne, Lt, Le, Gt, Ge}
use Rattle.sgl_values.specs.Range.{is_between}
use Rattle.sgl_values.proofs.Permutations.{IsPermutation-filter}
use Rattle.sgl_typed.specs.declared.script.Attr.{Attr}
use Rattle.sgl_typed.specs.declared.script.TTest.{TTest}
use Rattle.sgl_typed.specs.declared.script.TTest.TheVariants.{Compare, Within}
use Rattle.sgl_typed.specs.Aggregate.{meets}
use Rattle.sgl_typed.specs.Value.{Context, attribute}
use Rattle.sgl_evaluate.specs.Rights.{passes_each, right_of}
use Rattle.battle_algebra.specs.Ways.{attr_of, is_along}
use Rattle.battle_algebra.proofs.Bools.{both_true}
use Rattle.row_groups.specs.declared.ranked.Ranked.{Ranked}
use Rattle.row_groups.specs.Groups.{Grouping, IsGroups, number_of, rows_if, rows_in}
use Rattle.row_groups.specs.Keys.{along, four_of, has_key, row_values}
use Rattle.row_groups.specs.Places.{places}
use Rattle.row_groups.specs.Ranked.{rows_between, rows_valued}
use Rattle.row_groups.specs.Sorted.{IsSorting}
use Rattle.row_groups.proofs.Filters.{map-map}
use Rattle.row_groups.proofs.Placing.{filter-places}
use Rattle.test_boxes.specs.declared.reading.Reading.TheVariants.{Away}
use Rattle.test_boxes.specs.declared.span.Span.{Span}
use Rattle.test_boxes.specs.Ranges.{meets_number, passes_along, IsSpan}
use Rattle.test_boxes.specs.Readings.{grouping, row_key}
use Rattle.test_boxes.proofs.Boxing.{along_held, along_test}
use Rattle.index_set.specs.Targets.{passing_rows}
use Rattle.index_set.specs.Walks.{row_passes}
use Rattle.index_set.proofs.Aiming.{group_rest}

-- ---- a row that passes has the key that is asked for

passing-key : (c : Context) (tests : List TTest) (row : Row) → passes_each c tests row ≡ true
    → pointwise int_eq (row_key (grouping Away tests) row) (map (right_of c) (grouping Away tests)) ≡ true
passing-key c [] row passes = refl
passing-key c (test ∷ tests) row passes =
    let parts = and_parts (meets c.unit row test (right_of c test)) (passes_each c tests row) passes in
    step test parts.0 (passing-key c tests row parts.1)
  where
    step : (t : TTest) → meets c.unit row t (right_of c t) ≡ true
        → pointwise int_eq (row_key (grouping Away tests) row) (map (right_of c) (grouping Away tests)) ≡ true
        → pointwise int_eq (row_key (grouping Away (t ∷ tests)) row) (map (right_of c) (grouping Away (t ∷ tests))) ≡ true
    step (Compare attr Eq right) here later = both_true _ _ here later
    step (Compare attr Ne right) here later = later
    step (Compare attr Lt right) here later = later
    step (Compare attr Le right) here later = later
    step (Compare attr Gt right) here later = later
    step (Compare attr Ge right) here later = later
    step (Within x y radius) here later = later

has-asked : (c : Context) (tests : List TTest) (row : Row) (attrs : List Attr) → attrs ≡ map attr_of (grouping Away tests) → passes_each c tests row ≡ true
    → has_key attrs (four_of (map (right_of c) (grouping Away tests))) row ≡ true
has-asked c tests row attrs by passes =
    (pointwise_decides Decides-int_eq (four_of (row_values attrs row)) (four_of (map (right_of c) (grouping Away tests)))).1
    (ap four_of (ap (λ (xs : List Attr). row_values xs row) by ∙ map-map attr_of (λ attr. attribute attr row) (grouping Away tests)
    ∙ (pointwise_decides Decides-int_eq (row_key (grouping Away tests) row) (map (right_of c) (grouping Away tests))).0 (passing-key c tests row passes)))

-- ---- its values pass the range tests

number-met : (axis : Option Attr) (unit row : Row) (test : TTest) (z : ℤ) → meets unit row test z ≡ true → is_along axis test ≡ true → meets_number test (attribute (attr_of test) row) z ≡ true
number-met axis unit row (Compare attr op right) z met h = met
number-met axis unit row (Within x y radius) z met h = refl

passing-along : (axis : Option Attr) (c : Context) (tests : List TTest) (row : Row) → passes_each c tests row ≡ true → passes_along axis (right_of c) tests (along axis row) ≡ true
passing-along axis c [] row passes = refl
passing-along axis c (test ∷ tests) row passes =
    let parts = and_parts (meets c.unit row test (right_of c test)) (passes_each c tests row) passes in
    both_true _ _ (here (is_along axis test) refl parts.0) (passing-along axis c tests row parts.1)
  where
    here : (b : Bool) → is_along axis test ≡ b → meets c.unit row test (right_of c test) ≡ true → cond b (meets_number test (along axis row) (right_of c test)) true ≡ true
    here true h met = ap (λ v. meets_number test v (right_of c test)) (sym (along_test axis test row h)) ∙ number-met axis c.unit row test (right_of c test) met h
    here false h met = refl

-- ---- the rows of a strip

module _ (c : Context) (tests : List TTest) (width : ℕ) (groups : Grouping) (sorted : List Ranked) (axis across : Option Attr) (fit : All (IsRow width) c.world.rows)
    (by : groups.attrs ≡ map attr_of (grouping Away tests)) (of : IsGroups groups groups.attrs c.world.rows) where
  abbrev key : List ℤ
  key = four_of (map (right_of c) (grouping Away tests))

  -- there is no such group
  pub no_strip : number_of groups (four_of (map (right_of c) (grouping Away tests))) ≡ None → [] ≡ passing_rows c tests
  no_strip missing =
      ap (filter (row_passes c tests)) (ap (rows_if groups.lists) (sym missing) ∙ of.held key)
      ∙ group_rest (has_key groups.attrs key) (passes_each c tests) c.world.rows (record { key = 0; values = [] })
      (λ k d inside passes. has-asked c tests (get_or c.world.rows k d) groups.attrs by passes)

  module _ (group : ℕ) (there : number_of groups (four_of (map (right_of c) (grouping Away tests))) ≡ Some group) (held : IsSorting sorted groups axis across c.world) where
    abbrev valued : ℤ → ℤ → ℤ → ℤ → List ℕ
    valued x1 x2 y1 y2 = rows_valued across c.world y1 y2 (rows_valued axis c.world x1 x2 (rows_in groups group))

    pub strip_is_within : (x1 x2 y1 y2 : ℤ) → All (λ row. row < length c.world.rows) (rows_between sorted group x1 x2 y1 y2)
    strip_is_within x1 x2 y1 y2 =
        let P : ℕ → Type 0 = λ row. row < length c.world.rows in
        let first = λ (row : ℕ). is_between x1 x2 (along axis (row_at c.world row)) in
        let second = λ (row : ℕ). is_between y1 y2 (along across (row_at c.world row)) in
        All-permutation P (valued x1 x2 y1 y2) (rows_between sorted group x1 x2 y1 y2)
        (IsPermutation-sym (rows_between sorted group x1 x2 y1 y2) (valued x1 x2 y1 y2) (held.held group x1 x2 y1 y2))
        (All-filter second P (filter first (rows_in groups group)) (All-filter first P (rows_in groups group) (of.within group)))

    -- where the two values of each row that passes lie between these bounds, the rows of the strip that pass are those that do
    pub bounded_rest : (x1 x2 y1 y2 : ℤ) → All (λ row. passes_each c tests row ≡ true → (is_between x1 x2 (along axis row) ≡ true) × (is_between y1 y2 (along across row) ≡ true)) c.world.rows
        → IsPermutation (passing_rows c tests) (filter (row_passes c tests) (rows_between sorted group x1 x2 y1 y2))
    bounded_rest x1 x2 y1 y2 bounded =
        let first = λ (row : Row). is_between x1 x2 (along axis row) in
        let second = λ (row : Row). is_between y1 y2 (along across row) in
        let rows = c.world.rows in
        let none : Row = record { key = 0; values = [] } in
        let strip = rows_between sorted group x1 x2 y1 y2 in
        let chosen = valued x1 x2 y1 y2 in
        let listed : rows_in groups group ≡ places (has_key groups.attrs key) rows 0 = ap (rows_if groups.lists) (sym there) ∙ of.held key in
        let all : filter (row_passes c tests) chosen ≡ passing_rows c tests =
        ap (λ ns. filter (row_passes c tests) (filter (λ (n : ℕ). second (row_at c.world n)) (filter (λ (n : ℕ). first (row_at c.world n)) ns))) listed
        ∙ ap (λ ns. filter (row_passes c tests) (filter (λ (n : ℕ). second (row_at c.world n)) ns)) (filter-places (has_key groups.attrs key) first [] rows none)
        ∙ ap (filter (row_passes c tests)) (filter-places (λ row. has_key groups.attrs key row && first row) second [] rows none)
        ∙ group_rest (λ row. (has_key groups.attrs key row && first row) && second row) (passes_each c tests) rows none
        (λ k d inside passes. both_true _ _
        (both_true _ _ (has-asked c tests (get_or rows k d) groups.attrs by passes) (bounded k d inside passes).0)
        (bounded k d inside passes).1) in
        subst (λ (ns : List ℕ). IsPermutation ns (filter (row_passes c tests) strip)) all
        (IsPermutation-sym (filter (row_passes c tests) strip) (filter (row_passes c tests) chosen)
        (IsPermutation-filter (row_passes c tests) strip chosen (held.held group x1 x2 y1 y2)))

    pub strip_rest : (lengthwise crosswise : Span) → IsSpan lengthwise axis (right_of c) tests → IsSpan crosswise across (right_of c) tests
        → IsPermutation (passing_rows c tests) (filter (row_passes c tests) (rows_between sorted group lengthwise.low lengthwise.high crosswise.low crosswise.high))
    strip_rest lengthwise crosswise spans spans_across =
        let rows = c.world.rows in
        bounded_rest lengthwise.low lengthwise.high crosswise.low crosswise.high (λ k d inside passes. (
          along_held width axis (right_of c) tests (get_or rows k d) lengthwise (fit k d inside) spans ∙ passing-along axis c tests (get_or rows k d) passes,
          along_held width across (right_of c) tests (get_or rows k d) crosswise (fit k d inside) spans_across ∙ passing-along across c tests (get_or rows k d) passes,
        ))
