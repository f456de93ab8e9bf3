-- The rows of all groups but one.
use Rattle.std.proofs.Common.{◌≡◌, ℕ, zero, suc, ℤ, pos, ◌+◌, ◌-◌, ◌<◌, ◌≤◌, ◌==◌, Bool, true, false, not, ◌&&◌, cond, List, [], ◌∷◌, ◌++◌, take, drop, map, length, get_or, Option, None, Some, inl, inr, refl, ap, sym, ◌∙◌, subst, arith, length-append}
use Rattle.std.specs.Prelude.{filter, All, IfSome}
use Rattle.std.specs.Cmp.Lexicographic.{pointwise}
use Rattle.std.specs.List.{list_all, range_with_len, sum_by}
use Rattle.std.specs.List.Sorted.{IsPermutation}
use Rattle.std.specs.Ordering.{int_eq}
use Rattle.std.proofs.lemmas.Bool.{and_parts, cases_eq, eq-eqb, eqb-true, false≢true, ne_eqb}
use Rattle.std.proofs.lemmas.List.{get_or_past}
use Rattle.std.proofs.lemmas.List.Elements.{All-filter, All-head, All-tail, filter-append, filter_passes}
use Rattle.std.proofs.lemmas.List.Sorted.{All-permutation}
use Rattle.std.proofs.lemmas.List.Sums.{sum_by-cons}
use Rattle.std.proofs.Math.Seq.{split_at}
use Rattle.sgl_values.specs.World.{Row, IsRow, row_at}
use Rattle.sgl_values.specs.Range.{is_between}
use Rattle.sgl_values.specs.declared.operator.CmpOp.TheVariants.{Eq, Ne, Lt, Le, Gt, Ge}
use Rattle.sgl_typed.specs.declared.script.Attr.{Attr}
use Rattle.sgl_typed.specs.declared.script.Attr.TheVariants.{Key}
use Rattle.sgl_typed.specs.declared.script.TExpr.TheVariants.{Number as Literal}
use Rattle.sgl_typed.specs.declared.script.TTest.{TTest}
use Rattle.sgl_typed.specs.declared.script.TTest.TheVariants.{Compare, Within}
use Rattle.sgl_typed.specs.Aggregate.{meets}
use Rattle.sgl_typed.specs.Value.{Context, attribute}
use Rattle.sgl_evaluate.specs.Rights.{passes_each, right_of}
use Rattle.battle_algebra.specs.Ways.{attr_of, is_unequal_test}
use Rattle.row_groups.specs.declared.ranked.Ranked.{Ranked}
use Rattle.row_groups.specs.Groups.{Grouping, IsGroups, number_of, rows_if, rows_in}
use Rattle.row_groups.specs.Keys.{along, four_of, has_key}
use Rattle.row_groups.specs.Ranked.{rows_valued}
use Rattle.row_groups.specs.Sorted.{IsSorting}
use Rattle.row_groups.proofs.Filters.{filter_agree_on}
use Rattle.row_groups.proofs.Whole.{one_counts, same_sum, two_sums}
use Rattle.test_boxes.specs.declared.asked.AskedBox.{AskedBox}
use Rattle.test_boxes.specs.declared.reading.Reading.TheVariants.{Away, Alike}
use Rattle.test_boxes.specs.Ranges.{IsSpan}
use Rattle.test_boxes.specs.Readings.{grouping, groups_by, passes_read, row_key}
use Rattle.test_boxes.proofs.Boxing.{boxed_row}
use Rattle.test_boxes.proofs.Filters.{count_split}
use Rattle.group_boxes.specs.Points.{is_own}
use Rattle.index_set.specs.declared.left.Left.{Left}
use Rattle.index_set.specs.declared.left.Left.TheVariants.{Nothing, One, Others, All as Each}
use Rattle.index_set.specs.Left.{how_left, is_others, is_told, IsLeft, IsOthers}
use Rattle.index_set.specs.Others.{first_but, rows_asked, rows_but, rows_unless}
use Rattle.index_set.specs.Targets.{passing_rows}
use Rattle.index_set.specs.Walks.{row_passes}
use Rattle.index_set.proofs.Aiming.{range_below, scan_rest}
use Rattle.index_set.proofs.Counts.{many_same, none_left, same_counts}
use Rattle.index_set.proofs.Leaving.{sole_covered, sole_read, untold}

-- ---- lists, one after another, but for one

-- where the first one is left out, the second one is not
next-free : (own : Option ℕ) → is_own own 0 ≡ true → is_own own 1 ≡ false
next-free None is = refl
next-free (Some own) is = let first : own ≡ 0 = eqb-true own 0 is in ne_eqb own 1 (λ second. omega (arith, first, second))

-- the first one that is not left out may stand before the others
pub rows_first : (rows : ℕ → List ℕ) (own : Option ℕ) (count : ℕ) → ((group : ℕ) → count ≤ group → rows group ≡ [])
    → rows (first_but own) ++ rows_but own rows (first_but own + 1) (count - (first_but own + 1)) ≡ rows_but own rows 0 count
rows_first rows own count past = by (is_own own 0) refl
  where
    by : (b : Bool) → is_own own 0 ≡ b
        → rows (cond b 1 0) ++ rows_but own rows (cond b 1 0 + 1) (count - (cond b 1 0 + 1)) ≡ rows_but own rows 0 count
    by true is = second count past
      where
        second : (n : ℕ) → ((group : ℕ) → n ≤ group → rows group ≡ []) → rows 1 ++ rows_but own rows 2 (n - 2) ≡ rows_but own rows 0 n
        second zero past = ap (λ l. l ++ []) (past 1 (omega arith))
        second (suc zero) past =
            ap (λ l. l ++ []) (past 1 (omega arith)) ∙ ap (λ b. cond b [] (rows 0) ++ []) (sym is)
        second (suc (suc n)) past =
            ap (λ k. rows 1 ++ rows_but own rows 2 k) (omega arith)
            ∙ ap (λ b. cond b [] (rows 1) ++ rows_but own rows 2 n) (sym (next-free own is))
            ∙ ap (λ b. cond b [] (rows 0) ++ (rows_unless own rows 1 ++ rows_but own rows 2 n)) (sym is)
    by false is = first count past
      where
        first : (n : ℕ) → ((group : ℕ) → n ≤ group → rows group ≡ []) → rows 0 ++ rows_but own rows 1 (n - 1) ≡ rows_but own rows 0 n
        first zero past = ap (λ l. l ++ []) (past 0 (omega arith))
        first (suc n) past =
            ap (λ k. rows 0 ++ rows_but own rows 1 k) (omega arith)
            ∙ ap (λ b. cond b [] (rows 0) ++ rows_but own rows 1 n) (sym is)

module _ (p : ℕ → Bool) where
  -- what a test keeps of them is what it keeps of each
  pub kept_but : (own : Option ℕ) (rows : ℕ → List ℕ) (group count : ℕ)
      → length (filter p (rows_but own rows group count)) ≡ sum_by (λ g. length (filter p (rows_unless own rows g))) (range_with_len group count)
  kept_but own rows group zero = refl
  kept_but own rows group (suc count) =
      ap length (filter-append p (rows_unless own rows group) (rows_but own rows (group + 1) count))
      ∙ length-append (filter p (rows_unless own rows group)) (filter p (rows_but own rows (group + 1) count))
      ∙ ap (λ n. length (filter p (rows_unless own rows group)) + n) (kept_but own rows (group + 1) count)
      ∙ sym (sum_by-cons (λ g. length (filter p (rows_unless own rows g))) group (range_with_len (group + 1) count))

  part : (rows : ℕ → List ℕ) (own group : ℕ)
      → length (filter p (rows group)) ≡ length (filter p (rows_unless (Some own) rows group)) + cond (own == group) (length (filter p (rows own))) 0
  part rows own group = elim (cases_eq own group) [
    | inl same ↦
        let is : (own == group) ≡ true = eq-eqb own group same in
        let left : length (filter p (rows_unless (Some own) rows group)) ≡ 0 = ap (λ b. length (filter p (cond b [] (rows group)))) is in
        let here : cond (own == group) (length (filter p (rows own))) 0 ≡ length (filter p (rows own)) = ap (λ b. cond b (length (filter p (rows own))) 0) is in
        let one : length (filter p (rows own)) ≡ length (filter p (rows group)) = ap (λ g. length (filter p (rows g))) same in
        omega (arith, left, here, one)
    | inr other ↦
        let is : (own == group) ≡ false = ne_eqb own group other in
        let left : length (filter p (rows_unless (Some own) rows group)) ≡ length (filter p (rows group)) = ap (λ b. length (filter p (cond b [] (rows group)))) is in
        let here : cond (own == group) (length (filter p (rows own))) 0 ≡ 0 = ap (λ b. cond b (length (filter p (rows own))) 0) is in
        omega (arith, left, here)
  ]

  -- and with those of the one that is left out it is what it keeps of all
  pub kept_own : (lists : List (List ℕ)) (own : Option ℕ) → IfSome own (λ group. group < length lists)
      → sum_by (λ g. length (filter p (get_or lists g []))) (range_with_len 0 (length lists))
      ≡ sum_by (λ g. length (filter p (rows_unless own (λ k. get_or lists k []) g))) (range_with_len 0 (length lists)) + length (filter p (rows_if lists own))
  kept_own lists None inside = omega arith
  kept_own lists (Some own) inside =
      let rows : ℕ → List ℕ = λ k. get_or lists k [] in
      same_sum (λ g. length (filter p (rows g))) (λ g. length (filter p (rows_unless (Some own) rows g)) + cond (own == g) (length (filter p (rows own))) 0)
      (part rows own) (range_with_len 0 (length lists))
      ∙ two_sums (λ g. length (filter p (rows_unless (Some own) rows g))) (λ g. cond (own == g) (length (filter p (rows own))) 0) (range_with_len 0 (length lists))
      ∙ ap (λ n. sum_by (λ g. length (filter p (rows_unless (Some own) rows g))) (range_with_len 0 (length lists)) + n)
      (one_counts own (length (filter p (rows own))) 0 (length lists) (omega arith) (omega (arith, inside)))

module _ (p q : ℕ → Bool) where
  twice-by : (b c : Bool) (x : ℕ) (xs ys : List ℕ) → filter p xs ≡ ys → p x ≡ b
      → filter p (cond c (x ∷ xs) xs) ≡ cond (b && c) (x ∷ ys) ys
  twice-by true true x xs ys later is = (λ i. cond (is i) (x ∷ filter p xs) (filter p xs)) ∙ ap (λ l. x ∷ l) later
  twice-by true false x xs ys later is = later
  twice-by false true x xs ys later is = (λ i. cond (is i) (x ∷ filter p xs) (filter p xs)) ∙ later
  twice-by false false x xs ys later is = later

  filter-twice : (xs : List ℕ) → filter p (filter q xs) ≡ filter (λ n. p n && q n) xs
  filter-twice [] = refl
  filter-twice (x ∷ xs) = twice-by (p x) (q x) x (filter q xs) (filter (λ n. p n && q n) xs) (filter-twice xs) refl

-- where all pass, all are kept
filter-whole : (p : ℕ → Bool) (xs : List ℕ) → All (λ n. p n ≡ true) xs → filter p xs ≡ xs
filter-whole p [] all = refl
filter-whole p (x ∷ xs) all =
    ap (λ b. cond b (x ∷ filter p xs) (filter p xs)) (All-head (λ n. p n ≡ true) x xs all)
    ∙ ap (λ l. x ∷ l) (filter-whole p xs (All-tail (λ n. p n ≡ true) x xs all))

-- ---- the only unequal test

trailing : (b : Bool) → (b && true) ≡ b
trailing true = refl
trailing false = refl

told-alike : (axis across : Option Attr) (test : TTest) → is_told axis across test ≡ true → groups_by Alike test ≡ groups_by Away test
told-alike axis across (Compare attr Eq right) told = refl
told-alike axis across (Compare attr Ne right) told = absurd (untold axis across (Compare attr Ne right) refl told)
told-alike axis across (Compare attr Lt right) told = refl
told-alike axis across (Compare attr Le right) told = refl
told-alike axis across (Compare attr Gt right) told = refl
told-alike axis across (Compare attr Ge right) told = refl
told-alike axis across (Within x y radius) told = refl

told-grouping : (axis across : Option Attr) (tests : List TTest) → list_all (is_told axis across) tests ≡ true → grouping Alike tests ≡ grouping Away tests
told-grouping axis across [] told = refl
told-grouping axis across (test ∷ tests) told =
    let parts = and_parts (is_told axis across test) (list_all (is_told axis across) tests) told in
    let later : grouping Alike tests ≡ grouping Away tests = told-grouping axis across tests parts.1 in
    λ i. cond (told-alike axis across test parts.0 i) (test ∷ later i) (later i)

unequal-read : (test : TTest) → is_unequal_test test ≡ true → (groups_by Alike test ≡ true) × (groups_by Away test ≡ false)
unequal-read (Compare attr Eq right) is = absurd (false≢true is)
unequal-read (Compare attr Ne right) is = (refl, refl)
unequal-read (Compare attr Lt right) is = absurd (false≢true is)
unequal-read (Compare attr Le right) is = absurd (false≢true is)
unequal-read (Compare attr Gt right) is = absurd (false≢true is)
unequal-read (Compare attr Ge right) is = absurd (false≢true is)
unequal-read (Within x y radius) is = absurd (false≢true is)

unequal-met : (unit row : Row) (test : TTest) (z : ℤ) → is_unequal_test test ≡ true → meets unit row test z ≡ not (int_eq (attribute (attr_of test) row) z)
unequal-met unit row (Compare attr Eq right) z is = absurd (false≢true is)
unequal-met unit row (Compare attr Ne right) z is = refl
unequal-met unit row (Compare attr Lt right) z is = absurd (false≢true is)
unequal-met unit row (Compare attr Le right) z is = absurd (false≢true is)
unequal-met unit row (Compare attr Gt right) z is = absurd (false≢true is)
unequal-met unit row (Compare attr Ge right) z is = absurd (false≢true is)
unequal-met unit row (Within x y radius) z is = absurd (false≢true is)

both-empty : (xs ys : List TTest) → xs ++ ys ≡ [] → (xs ≡ []) × (ys ≡ [])
both-empty [] ys none = (refl, none)
both-empty (x ∷ xs) ys none = absurd (omega (arith, ap length none))

split-grouping : (axis across : Option Attr) (before : List TTest) (test : TTest) (after : List TTest) → is_unequal_test test ≡ true
    → list_all (is_told axis across) before ≡ true → list_all (is_told axis across) after ≡ true
    → grouping Away (before ++ test ∷ after) ≡ [] → grouping Alike (before ++ test ∷ after) ≡ test ∷ []
split-grouping axis across before test after unequal told_before told_after alone =
    let read = unequal-read test unequal in
    let empty = both-empty (grouping Away before) (grouping Away after)
    (ap (λ b. grouping Away before ++ cond b (test ∷ grouping Away after) (grouping Away after)) (sym read.1)
    ∙ sym (filter-append (groups_by Away) before (test ∷ after)) ∙ alone) in
    let first : grouping Alike before ≡ [] = told-grouping axis across before told_before ∙ empty.0 in
    let last : grouping Alike after ≡ [] = told-grouping axis across after told_after ∙ empty.1 in
    filter-append (groups_by Alike) before (test ∷ after)
    ∙ (λ i. first i ++ cond (read.0 i) (test ∷ last i) (last i))

-- its value alone numbers the groups
pub one_groups : (axis across : Option Attr) (tests : List TTest) (is : IsOthers axis across tests) (none : TTest)
    → grouping Alike tests ≡ get_or tests is.number none ∷ []
one_groups axis across tests is none =
    let test : TTest = get_or tests is.number none in
    let whole : tests ≡ take is.number tests ++ test ∷ drop (suc is.number) tests = split_at tests is.number none is.sole.within in
    let P : List TTest → Type 0 = λ ts. grouping Away ts ≡ [] → grouping Alike ts ≡ test ∷ [] in
    subst P (sym whole)
    (λ alone. split-grouping axis across (take is.number tests) test (drop (suc is.number) tests) (is.unequal none) is.sole.before is.sole.after alone) is.alone

abbrev no_test : TTest
no_test = Compare Key Eq (Literal (pos 0))

pub others_few : (axis across : Option Attr) (tests : List TTest) → IsOthers axis across tests → length (grouping Alike tests) ≤ 4
others_few axis across tests is = omega (arith, ap length (one_groups axis across tests is no_test))

-- a key has room for the values that number the groups
pub left_few : (left : Left) (axis across : Option Attr) (tests : List TTest) → IsLeft left axis across tests → length (grouping Away tests) ≤ 4
    → length (grouping (how_left left) tests) ≤ 4
left_few Nothing axis across tests is few = few
left_few (One number) axis across tests is few = few
left_few Others axis across tests is few = others_few axis across tests is
left_few Each axis across tests is few = few

pub away_left : (left : Left) → is_others left ≡ false → how_left left ≡ Away
away_left Nothing is = refl
away_left (One number) is = refl
away_left Others is = absurd (false≢true (sym is))
away_left Each is = refl

pub alike_left : (left : Left) → is_others left ≡ true → how_left left ≡ Alike
alike_left Nothing is = absurd (false≢true is)
alike_left (One number) is = absurd (false≢true is)
alike_left Others is = refl
alike_left Each is = absurd (false≢true is)

pub others_left : (left : Left) (axis across : Option Attr) (tests : List TTest) → is_others left ≡ true → IsLeft left axis across tests
    → IsOthers axis across tests
others_left Nothing axis across tests is left = absurd (false≢true is)
others_left (One number) axis across tests is left = absurd (false≢true is)
others_left Others axis across tests is left = left
others_left Each axis across tests is left = absurd (false≢true is)

-- ---- the rows of all groups but one

sorted-out : (p s f o : Bool) → (((p && s) && f) && not o) ≡ (p && ((f && s) && not o))
sorted-out true true true o = refl
sorted-out true true false o = refl
sorted-out true false true o = refl
sorted-out true false false o = refl
sorted-out false s f o = refl

module _ (c : Context) (tests : List TTest) (width : ℕ) (groups : Grouping) (sorted : List Ranked) (axis across : Option Attr)
    (fit : All (IsRow width) c.world.rows) (is : IsOthers axis across tests)
    (by : groups.attrs ≡ map attr_of (grouping Alike tests)) (of : IsGroups groups groups.attrs c.world.rows)
    (held : IsSorting sorted groups axis across c.world) (asked : AskedBox)
    (spans : IsSpan asked.across axis (right_of c) tests) (spans_across : IsSpan asked.down across (right_of c) tests) where
  abbrev key : List ℤ
  key = four_of (map (right_of c) (grouping Alike tests))

  abbrev none : Row
  none = record { key = 0; values = [] }

  abbrev test : TTest
  test = get_or tests is.number no_test

  abbrev first : Row → Bool
  first row = is_between asked.across.low asked.across.high (along axis row)

  abbrev second : Row → Bool
  second row = is_between asked.down.low asked.down.high (along across row)

  -- a row has the key where its value is the right side of the unequal test
  owned : (row : Row) → has_key groups.attrs key row ≡ int_eq (attribute (attr_of test) row) (right_of c test)
  owned row =
      let one : grouping Alike tests ≡ test ∷ [] = one_groups axis across tests is no_test in
      let attrs : groups.attrs ≡ attr_of test ∷ [] = by ∙ ap (map attr_of) one in
      (λ i. has_key (attrs i) (four_of (map (right_of c) (one i))) row) ∙ trailing (int_eq (attribute (attr_of test) row) (right_of c test))

  -- a row passes where it lies in the box and has another key
  passing-row : (row : Row) → IsRow width row → passes_each c tests row ≡ ((first row && second row) && not (has_key groups.attrs key row))
  passing-row row fits =
      let read : passes_read Away (right_of c) tests row ≡ (first row && second row) =
      boxed_row width Away (right_of c) tests row axis across asked.across asked.down refl
      (sole_covered axis across c tests is.number no_test is.sole) fits spans spans_across
      ∙ ap (λ g. pointwise int_eq (row_key g row) (map (right_of c) g) && (first row && second row)) is.alone in
      let met : meets c.unit row test (right_of c test) ≡ not (has_key groups.attrs key row) =
      unequal-met c.unit row test (right_of c test) (is.unequal no_test) ∙ ap not (sym (owned row)) in
      sole_read axis across c tests is.number no_test row is.sole ∙ (λ i. read i && met i)

  abbrev numbers : List ℕ
  numbers = range_with_len 0 (length c.world.rows)

  abbrev owns : ℕ → Bool
  owns n = has_key groups.attrs key (row_at c.world n)

  abbrev boxed : (ℕ → Bool) → ℕ → Bool
  boxed p n = (p n && second (row_at c.world n)) && first (row_at c.world n)

  abbrev strip : ℕ → List ℕ
  strip = rows_asked sorted asked

  -- what a test keeps of a strip
  strip-keeps : (p : ℕ → Bool) (group : ℕ) → length (filter p (strip group)) ≡ length (filter (boxed p) (rows_in groups group))
  strip-keeps p group =
      let rows : List ℕ = rows_in groups group in
      many_same (strip group) (rows_valued across c.world asked.down.low asked.down.high (rows_valued axis c.world asked.across.low asked.across.high rows))
      (held.held group asked.across.low asked.across.high asked.down.low asked.down.high) p
      ∙ ap length (filter-twice p (λ n. second (row_at c.world n)) (filter (λ n. first (row_at c.world n)) rows)
      ∙ filter-twice (λ n. p n && second (row_at c.world n)) (λ n. first (row_at c.world n)) rows)

  -- there is no strip of a group behind the last
  pub strip_past : (group : ℕ) → length groups.lists ≤ group → strip group ≡ []
  strip_past group past =
      let missing : rows_in groups group ≡ [] = get_or_past groups.lists group [] past in
      let kept : length (filter (λ n. true) (strip group)) ≡ 0 =
      strip-keeps (λ n. true) group ∙ ap (λ ns. length (filter (boxed (λ n. true)) ns)) missing in
      none_left (strip group) kept

  module _ (own : Option ℕ) (there : number_of groups (four_of (map (right_of c) (grouping Alike tests))) ≡ own) where
    unless-keeps : (p : ℕ → Bool) (group : ℕ)
        → length (filter p (rows_unless own strip group)) ≡ length (filter (boxed p) (rows_unless own (rows_in groups) group))
    unless-keeps p group = cases (is_own own group)
      where
        cases : (b : Bool) → length (filter p (cond b [] (strip group))) ≡ length (filter (boxed p) (cond b [] (rows_in groups group)))
        cases true = refl
        cases false = strip-keeps p group

    own-keeps : (p : ℕ → Bool) → length (filter p (rows_if groups.lists own)) ≡ length (filter (λ n. p n && owns n) numbers)
    own-keeps p =
        ap (λ ns. length (filter p ns))
        (ap (rows_if groups.lists) (sym there) ∙ of.held key ∙ sym (scan_rest (has_key groups.attrs key) c.world.rows none))
        ∙ ap length (filter-twice p owns numbers)

    own-inside : IfSome own (λ group. group < length groups.lists)
    own-inside = cases own there
      where
        cases : (o : Option ℕ) → number_of groups key ≡ o → IfSome o (λ group. group < length groups.lists)
        cases None h = tt
        cases (Some group) h = of.inside key group h

    -- those that a test keeps of the others are those of all that have another key
    others-keep : (p : ℕ → Bool) → sum_by (λ g. length (filter p (rows_unless own (rows_in groups) g))) (range_with_len 0 (length groups.lists))
        ≡ length (filter (λ n. p n && not (owns n)) numbers)
    others-keep p = omega (arith, of.whole p, kept_own p groups.lists own own-inside, own-keeps p, count_split p owns numbers)

    agrees : (p : ℕ → Bool) → filter (λ n. boxed p n && not (owns n)) numbers ≡ filter (λ n. p n && row_passes c tests n) numbers
    agrees p = filter_agree_on (λ n. boxed p n && not (owns n)) (λ n. p n && row_passes c tests n) numbers
        (λ k d inside.
        let n : ℕ = get_or numbers k d in
        let row : Row = row_at c.world n in
        let below : n < length c.world.rows = range_below (length c.world.rows) (length c.world.rows) refl k d inside in
        sorted-out (p n) (second row) (first row) (owns n)
        ∙ ap (λ b. p n && b) (sym (passing-row row (fit n none below))))

    abbrev rest : List ℕ
    rest = rows_but own strip 0 (length groups.lists)

    -- the rows of all strips but one are those that pass, each once
    pub others_pass : IsPermutation (passing_rows c tests) rest
    others_pass = same_counts (passing_rows c tests) rest (λ p.
        ap (λ ns. length (filter p ns)) (sym (scan_rest (passes_each c tests) c.world.rows none))
        ∙ ap length (filter-twice p (row_passes c tests) numbers)
        ∙ ap length (sym (agrees p))
        ∙ sym (others-keep (boxed p))
        ∙ sym (same_sum (λ g. length (filter p (rows_unless own strip g))) (λ g. length (filter (boxed p) (rows_unless own (rows_in groups) g)))
        (unless-keeps p) (range_with_len 0 (length groups.lists)))
        ∙ sym (kept_but p own strip 0 (length groups.lists)))

    pub others_within : All (λ row. row < length c.world.rows) rest
    others_within =
        let P : ℕ → Type 0 = λ row. row < length c.world.rows in
        All-permutation P (passing_rows c tests) rest others_pass
        (subst (λ (ns : List ℕ). All P ns) (scan_rest (passes_each c tests) c.world.rows none)
        (All-filter (row_passes c tests) P numbers (range_below (length c.world.rows) (length c.world.rows) refl)))

    pub others_all : All (λ row. row_passes c tests row ≡ true) rest
    others_all =
        let P : ℕ → Type 0 = λ row. row_passes c tests row ≡ true in
        All-permutation P (passing_rows c tests) rest others_pass
        (subst (λ (ns : List ℕ). All P ns) (scan_rest (passes_each c tests) c.world.rows none)
        (filter_passes (row_passes c tests) numbers))

    pub others_leave : IsPermutation (passing_rows c tests) (filter (row_passes c tests) rest)
    others_leave = subst (IsPermutation (passing_rows c tests)) (sym (filter-whole (row_passes c tests) rest others_all)) others_pass
