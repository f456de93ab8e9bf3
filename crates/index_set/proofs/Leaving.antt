-- The rows of a strip pass the tests that it stands for.
use Rattle.std.proofs.Common.{◌≡◌, ℕ, suc, ◌≤◌, ℤ, Bool, true, false, not, ◌&&◌, ◌||◌, List, [], ◌∷◌, ◌++◌, take, drop, map, length, get_or, Option, None, Some, refl, ap, sym, ◌∙◌, subst}
use Rattle.std.specs.Prelude.{filter, All}
use Rattle.std.specs.List.{list_all, range_with_len}
use Rattle.std.specs.Cmp.Lexicographic.{pointwise}
use Rattle.std.specs.List.Sorted.{IsPermutation}
use Rattle.std.specs.Ordering.{int_eq}
use Rattle.std.proofs.lemmas.Bool.{and_parts, false≢true}
use Rattle.std.proofs.lemmas.List.Elements.{filter_passes}
use Rattle.std.proofs.lemmas.List.Folds.{list_all-append}
use Rattle.std.proofs.Math.Seq.{split_at}
use Rattle.std.proofs.lemmas.Option.{none-some, same_Some}
use Rattle.std.proofs.lemmas.List.Sorted.{All-permutation, IsPermutation-sym}
use Rattle.sgl_values.specs.World.{Row, IsRow, row_at}
use Rattle.sgl_values.specs.declared.operator.CmpOp.TheVariants.{Eq, Ne, Lt, Le, Gt, Ge}
use Rattle.sgl_values.specs.Range.{is_between}
use Rattle.sgl_typed.specs.declared.script.Attr.{Attr}
use Rattle.sgl_typed.specs.declared.script.TTest.{TTest}
use Rattle.sgl_typed.specs.declared.script.TTest.TheVariants.{Compare, Within}
use Rattle.sgl_typed.specs.Aggregate.{meets}
use Rattle.sgl_typed.specs.Value.{Context}
use Rattle.sgl_evaluate.specs.Rights.{passes_each, right_of}
use Rattle.battle_algebra.specs.Ways.{attr_of, covered, is_along, is_range_test}
use Rattle.battle_algebra.proofs.Bools.{both_true}
use Rattle.row_groups.specs.declared.ranked.Ranked.{Ranked}
use Rattle.row_groups.specs.Groups.{Grouping, IsGroups, number_of, rows_if, rows_in}
use Rattle.row_groups.specs.Keys.{along, four_of, has_key}
use Rattle.row_groups.specs.Places.{places}
use Rattle.row_groups.specs.Ranked.{rows_between, rows_valued}
use Rattle.row_groups.specs.Sorted.{IsSorting}
use Rattle.row_groups.proofs.Placing.{filter-places, places_agree}
use Rattle.test_boxes.specs.declared.reading.Reading.TheVariants.{Away}
use Rattle.test_boxes.specs.declared.span.Span.{Span}
use Rattle.test_boxes.specs.Ranges.{IsSpan}
use Rattle.test_boxes.specs.Readings.{grouping, meets_read, passes_read, row_key}
use Rattle.test_boxes.proofs.Boxing.{boxed_row}
use Rattle.test_boxes.proofs.Grouped.{keyed}
use Rattle.index_set.specs.declared.left.Left.{Left}
use Rattle.index_set.specs.declared.left.Left.TheVariants.{Nothing, One, Others, All as Each}
use Rattle.index_set.specs.Left.{is_free, is_told, IsLeft, IsSole}
use Rattle.index_set.specs.Walks.{asked_rows, row_passes, walk_rest, AreEnough, AsksEnough}
use Rattle.index_set.proofs.Aiming.{scan_rest}

-- whatever its rows are asked, they are those of the strip
pub strip_walked : (left : Left) (rows : List ℕ) → walk_rest (asked_rows left rows) ≡ rows
strip_walked Nothing rows = refl
strip_walked (One number) rows = refl
strip_walked Others rows = refl
strip_walked Each rows = refl

-- ---- tests that a strip stands for

no-along : (axis : Option Attr) (test : TTest) → is_range_test test ≡ false → is_along axis test ≡ true → ⊥
no-along None test no_range h = false≢true h
no-along (Some attr) test no_range h = false≢true (sym no_range ∙ (and_parts _ _ h).0)

neither : (x y : Bool) → (x ≡ true → ⊥) → (y ≡ true → ⊥) → (x || y) ≡ true → ⊥
neither true y no_x no_y h = no_x refl
neither false y no_x no_y h = no_y h

pub untold : (axis across : Option Attr) (test : TTest) → is_range_test test ≡ false → (is_along axis test || is_along across test) ≡ true → ⊥
untold axis across test no_range h = neither _ _ (no-along axis test no_range) (no-along across test no_range) h

-- none of them is unequal, and none a circle
told-test : (axis across : Option Attr) (unit row : Row) (test : TTest) (z : ℤ) → is_told axis across test ≡ true
    → meets unit row test z ≡ meets_read Away row test z
told-test axis across unit row (Compare attr Eq right) z told = refl
told-test axis across unit row (Compare attr Ne right) z told = absurd (untold axis across (Compare attr Ne right) refl told)
told-test axis across unit row (Compare attr Lt right) z told = refl
told-test axis across unit row (Compare attr Le right) z told = refl
told-test axis across unit row (Compare attr Gt right) z told = refl
told-test axis across unit row (Compare attr Ge right) z told = refl
told-test axis across unit row (Within x y radius) z told = absurd (untold axis across (Within x y radius) refl told)

told-read : (axis across : Option Attr) (c : Context) (tests : List TTest) (row : Row) → list_all (is_told axis across) tests ≡ true
    → passes_each c tests row ≡ passes_read Away (right_of c) tests row
told-read axis across c [] row told = refl
told-read axis across c (test ∷ tests) row told =
    let parts = and_parts (is_told axis across test) (list_all (is_told axis across) tests) told in
    λ i. told-test axis across c.unit row test (right_of c test) parts.0 i && told-read axis across c tests row parts.1 i

-- each range test is of one of the two attributes
told-range : (axis across : Option Attr) (test : TTest) → is_told axis across test ≡ true → covered axis across (test ∷ []) ≡ true
told-range axis across (Compare attr Eq right) told = refl
told-range axis across (Compare attr Ne right) told = refl
told-range axis across (Compare attr Lt right) told = both_true _ _ told refl
told-range axis across (Compare attr Le right) told = both_true _ _ told refl
told-range axis across (Compare attr Gt right) told = both_true _ _ told refl
told-range axis across (Compare attr Ge right) told = both_true _ _ told refl
told-range axis across (Within x y radius) told = refl

told-covered : (axis across : Option Attr) (tests : List TTest) → list_all (is_told axis across) tests ≡ true
    → covered axis across tests ≡ true
told-covered axis across [] told = refl
told-covered axis across (test ∷ tests) told =
    let parts = and_parts (is_told axis across test) (list_all (is_told axis across) tests) told in
    both_true _ _ (and_parts _ _ (told-range axis across test parts.0)).0 (told-covered axis across tests parts.1)

-- ---- one test that it does not stand for

free-read : (row : Row) (test : TTest) (z : ℤ) → is_free test ≡ true → meets_read Away row test z ≡ true
free-read row (Compare attr Eq right) z free = absurd (false≢true free)
free-read row (Compare attr Ne right) z free = refl
free-read row (Compare attr Lt right) z free = absurd (false≢true free)
free-read row (Compare attr Le right) z free = absurd (false≢true free)
free-read row (Compare attr Gt right) z free = absurd (false≢true free)
free-read row (Compare attr Ge right) z free = absurd (false≢true free)
free-read row (Within x y radius) z free = refl

free-range : (axis across : Option Attr) (test : TTest) → is_free test ≡ true → covered axis across (test ∷ []) ≡ true
free-range axis across (Compare attr Eq right) free = absurd (false≢true free)
free-range axis across (Compare attr Ne right) free = refl
free-range axis across (Compare attr Lt right) free = absurd (false≢true free)
free-range axis across (Compare attr Le right) free = absurd (false≢true free)
free-range axis across (Compare attr Gt right) free = absurd (false≢true free)
free-range axis across (Compare attr Ge right) free = absurd (false≢true free)
free-range axis across (Within x y radius) free = refl

aside : (p m r q : Bool) → r ≡ true → (p && (m && q)) ≡ ((p && (r && q)) && m)
aside true true r true is = rw is refl
aside true true r false is = rw is refl
aside true false r true is = rw is refl
aside true false r false is = rw is refl
aside false m r q is = refl

module _ (axis across : Option Attr) (c : Context) (before : List TTest) (test : TTest) (after : List TTest)
    (free : is_free test ≡ true) (told_before : list_all (is_told axis across) before ≡ true)
    (told_after : list_all (is_told axis across) after ≡ true) where
  split-read : (row : Row) → passes_each c (before ++ test ∷ after) row
      ≡ (passes_read Away (right_of c) (before ++ test ∷ after) row && meets c.unit row test (right_of c test))
  split-read row =
      let p : TTest → Bool = λ t. meets c.unit row t (right_of c t) in
      let r : TTest → Bool = λ t. meets_read Away row t (right_of c t) in
      list_all-append p before (test ∷ after)
      ∙ (λ i. told-read axis across c before row told_before i && (p test && told-read axis across c after row told_after i))
      ∙ aside (list_all r before) (p test) (r test) (list_all r after) (free-read row test (right_of c test) free)
      ∙ ap (λ b. b && p test) (sym (list_all-append r before (test ∷ after)))

  split-covered : covered axis across (before ++ test ∷ after) ≡ true
  split-covered =
      let p : TTest → Bool = λ t. not (is_range_test t) || (is_along axis t || is_along across t) in
      list_all-append p before (test ∷ after)
      ∙ both_true _ _ (told-covered axis across before told_before)
      (both_true _ _ (and_parts _ _ (free-range axis across test free)).0 (told-covered axis across after told_after))

pub sole_read : (axis across : Option Attr) (c : Context) (tests : List TTest) (number : ℕ) (none : TTest) (row : Row)
    → IsSole axis across tests number
    → passes_each c tests row
    ≡ (passes_read Away (right_of c) tests row && meets c.unit row (get_or tests number none) (right_of c (get_or tests number none)))
sole_read axis across c tests number none row sole =
    let test : TTest = get_or tests number none in
    let P : List TTest → Type 0 = λ ts. passes_each c ts row ≡ (passes_read Away (right_of c) ts row && meets c.unit row test (right_of c test)) in
    subst P (sym (split_at tests number none sole.within))
    (split-read axis across c (take number tests) test (drop (suc number) tests) (sole.free none) sole.before sole.after row)

pub sole_covered : (axis across : Option Attr) (c : Context) (tests : List TTest) (number : ℕ) (none : TTest) → IsSole axis across tests number
    → covered axis across tests ≡ true
sole_covered axis across c tests number none sole =
    subst (λ (ts : List TTest). covered axis across ts ≡ true) (sym (split_at tests number none sole.within))
    (split-covered axis across c (take number tests) (get_or tests number none) (drop (suc number) tests) (sole.free none) sole.before sole.after)

-- ---- the rows of a strip

turned : (k p q : Bool) → ((k && p) && q) ≡ (k && (p && q))
turned true p q = refl
turned false p q = refl

module _ (c : Context) (tests : List TTest) (width : ℕ) (groups : Grouping) (sorted : List Ranked) (axis across : Option Attr)
    (fit : All (IsRow width) c.world.rows)
    (by : groups.attrs ≡ map attr_of (grouping Away tests)) (few : length (grouping Away tests) ≤ 4)
    (of : IsGroups groups groups.attrs c.world.rows) where
  abbrev key : List ℤ
  key = four_of (map (right_of c) (grouping Away tests))

  abbrev reads : Row → Bool
  reads = passes_read Away (right_of c) tests

  -- the key of the group is the one that is asked for
  member : (row : Row) → has_key groups.attrs key row
      ≡ pointwise int_eq (row_key (grouping Away tests) row) (map (right_of c) (grouping Away tests))
  member row = ap (λ (attrs : List Attr). has_key attrs key row) by ∙ keyed Away (right_of c) tests row few

  module _ (lengthwise crosswise : Span) (spans : IsSpan lengthwise axis (right_of c) tests)
      (spans_across : IsSpan crosswise across (right_of c) tests) where
    abbrev first : Row → Bool
    first row = is_between lengthwise.low lengthwise.high (along axis row)

    abbrev second : Row → Bool
    second row = is_between crosswise.low crosswise.high (along across row)

    abbrev strip : ℕ → List ℕ
    strip group = rows_between sorted group lengthwise.low lengthwise.high crosswise.low crosswise.high

    told-row : (row : Row) → covered axis across tests ≡ true → IsRow width row
        → ((has_key groups.attrs key row && first row) && second row) ≡ reads row
    told-row row cover fits =
        turned (has_key groups.attrs key row) (first row) (second row)
        ∙ ap (λ b. b && (first row && second row)) (member row)
        ∙ sym (boxed_row width Away (right_of c) tests row axis across lengthwise crosswise refl cover fits spans spans_across)

    -- the rows of the group with both values in the spans are those that pass the tests as they are read
    told-rows : (group : ℕ) → covered axis across tests ≡ true → number_of groups key ≡ Some group
        → rows_valued across c.world crosswise.low crosswise.high
        (rows_valued axis c.world lengthwise.low lengthwise.high (rows_in groups group)) ≡ places reads c.world.rows 0
    told-rows group cover there =
        let rows = c.world.rows in
        let none : Row = record { key = 0; values = [] } in
        ap (λ ns. filter (λ (n : ℕ). second (row_at c.world n)) (filter (λ (n : ℕ). first (row_at c.world n)) ns))
        (ap (rows_if groups.lists) (sym there) ∙ of.held key)
        ∙ ap (filter (λ (n : ℕ). second (row_at c.world n))) (filter-places (has_key groups.attrs key) first [] rows none)
        ∙ filter-places (λ row. has_key groups.attrs key row && first row) second [] rows none
        ∙ places_agree (λ row. (has_key groups.attrs key row && first row) && second row) reads rows 0
        (λ k d inside. told-row (get_or rows k d) cover (fit k d inside))

    module _ (group : ℕ) (there : number_of groups (four_of (map (right_of c) (grouping Away tests))) ≡ Some group)
        (held : IsSorting sorted groups axis across c.world) where
      strip-reads : covered axis across tests ≡ true → All (λ row. reads (row_at c.world row) ≡ true) (strip group)
      strip-reads cover =
          let P : ℕ → Type 0 = λ row. reads (row_at c.world row) ≡ true in
          let chosen = rows_valued across c.world crosswise.low crosswise.high
          (rows_valued axis c.world lengthwise.low lengthwise.high (rows_in groups group)) in
          All-permutation P (places reads c.world.rows 0) (strip group)
          (subst (λ (ns : List ℕ). IsPermutation ns (strip group)) (told-rows group cover there)
          (IsPermutation-sym (strip group) chosen (held.held group lengthwise.low lengthwise.high crosswise.low crosswise.high)))
          (subst (λ (ns : List ℕ). All P ns) (scan_rest reads c.world.rows (record { key = 0; values = [] }))
          (filter_passes (λ row. reads (row_at c.world row)) (range_with_len 0 (length c.world.rows))))

      -- where the strip stands for all tests, its rows pass
      strip_passes : list_all (is_told axis across) tests ≡ true → All (λ row. row_passes c tests row ≡ true) (strip group)
      strip_passes told = λ k d inside.
          told-read axis across c tests (row_at c.world (get_or (strip group) k d)) told
          ∙ strip-reads (told-covered axis across tests told) k d inside

      -- where it stands for all but one, they pass where they pass that one
      strip_meets : (number : ℕ) → IsSole axis across tests number → AreEnough c tests number (strip group)
      strip_meets number sole = (
        sole.within,
        λ none k d inside.
            let row = row_at c.world (get_or (strip group) k d) in
            sole_read axis across c tests number none row sole
            ∙ ap (λ b. b && meets c.unit row (get_or tests number none) (right_of c (get_or tests number none)))
            (strip-reads (sole_covered axis across c tests number none sole) k d inside),
      )

      -- its rows are asked enough
      pub strip_asks : (left : Left) → IsLeft left axis across tests → AsksEnough c tests (asked_rows left (strip group))
      strip_asks Nothing is = (λ exact. strip_passes is, λ number none. absurd (none-some number none))
      strip_asks (One number) is = (
        λ exact. absurd (false≢true exact),
        λ other same. subst (λ (n : ℕ). AreEnough c tests n (strip group)) (same_Some number other same) (strip_meets number is),
      )
      strip_asks Others is = (λ exact. absurd (false≢true exact), λ number none. absurd (none-some number none))
      strip_asks Each is = (λ exact. absurd (false≢true exact), λ number none. absurd (none-some number none))
