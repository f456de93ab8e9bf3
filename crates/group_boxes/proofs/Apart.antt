-- What a box holds of all groups but one.
use Rattle.std.proofs.Common.{◌≡◌, ℕ, ℤ, ◌+◌, ◌<◌, ◌≤◌, ◌==◌, Bool, true, false, ◌&&◌, cond, List, [], ◌∷◌, map, length, get_or, Option, None, Some, inl, inr, refl, ap, sym, ◌∙◌, arith}
use Rattle.std.specs.Prelude.{filter, All}
use Rattle.std.specs.Cmp.Lexicographic.{pointwise}
use Rattle.std.specs.Ordering.{int_eq}
use Rattle.std.specs.List.{range_with_len, sum_by}
use Rattle.std.proofs.lemmas.Bool.{cases_eq, eq-eqb, ne_eqb}
use Rattle.std.proofs.lemmas.List.{length-map}
use Rattle.std.proofs.lemmas.List.Sums.{sum_by-le-sum_by}
use Rattle.sgl_values.specs.World.{Row, IsRow}
use Rattle.sgl_values.specs.Range.{is_between}
use Rattle.sgl_typed.specs.declared.script.TTest.{TTest}
use Rattle.battle_algebra.specs.Ways.{few_groups, is_boxed, x_of, y_of}
use Rattle.range_aggregate.specs.Boxes.{count_of, is_in}
use Rattle.range_aggregate.proofs.Weights.{length-filter-IsPermutation}
use Rattle.row_groups.specs.Groups.{number_of, rows_in}
use Rattle.row_groups.specs.Keys.{along, four_of}
use Rattle.row_groups.specs.Listed.{list_if}
use Rattle.row_groups.specs.Places.{places}
use Rattle.row_groups.proofs.Filters.{filter-map, filter_agree_on}
use Rattle.row_groups.proofs.Placing.{all_places, at_places, filter-places}
use Rattle.row_groups.proofs.Whole.{one_counts, same_sum, sum_grows, sum_more, two_sums}
use Rattle.test_boxes.specs.declared.asked.AskedBox.{AskedBox}
use Rattle.test_boxes.specs.declared.reading.Reading.TheVariants.{Away, Alike}
use Rattle.test_boxes.specs.declared.span.Span.{Span}
use Rattle.test_boxes.specs.Forms.{IsAsked}
use Rattle.test_boxes.specs.Readings.{grouping, passes_read, row_key}
use Rattle.test_boxes.proofs.Boxing.{boxed_row}
use Rattle.test_boxes.proofs.Shapes.{boxed_covered}
use Rattle.group_boxes.specs.declared.ranged.GroupBoxes.{GroupBoxes}
use Rattle.group_boxes.specs.Points.{count_but, count_in, is_own, point_at, points_under, Indexed}
use Rattle.group_boxes.specs.Ranged.{AreOthers}
use Rattle.group_boxes.proofs.Answering.{read_count}

-- ---- one group is left out

apart : (boxes : Indexed) (across down : Span) (own group : ℕ)
    → count_in boxes across down group ≡ count_but boxes across down (Some own) group + cond (own == group) (count_in boxes across down own) 0
apart boxes across down own group = elim (cases_eq own group) [
  | inl same ↦
      let is : (own == group) ≡ true = eq-eqb own group same in
      let left : count_but boxes across down (Some own) group ≡ 0 = ap (λ b. cond b 0 (count_in boxes across down group)) is in
      let here : cond (own == group) (count_in boxes across down own) 0 ≡ count_in boxes across down own = ap (λ b. cond b (count_in boxes across down own) 0) is in
      let one : count_in boxes across down own ≡ count_in boxes across down group = ap (count_in boxes across down) same in
      omega (arith, left, here, one)
  | inr other ↦
      let is : (own == group) ≡ false = ne_eqb own group other in
      let left : count_but boxes across down (Some own) group ≡ count_in boxes across down group = ap (λ b. cond b 0 (count_in boxes across down group)) is in
      let here : cond (own == group) (count_in boxes across down own) 0 ≡ 0 = ap (λ b. cond b (count_in boxes across down own) 0) is in
      omega (arith, left, here)
]

but_one : (boxes : Indexed) (across down : Span) (own n : ℕ) → own < n
    → sum_by (count_in boxes across down) (range_with_len 0 n) ≡ sum_by (count_but boxes across down (Some own)) (range_with_len 0 n) + count_in boxes across down own
but_one boxes across down own n below =
    same_sum (count_in boxes across down) (λ group. count_but boxes across down (Some own) group + cond (own == group) (count_in boxes across down own) 0)
    (apart boxes across down own) (range_with_len 0 n)
    ∙ two_sums (count_but boxes across down (Some own)) (λ group. cond (own == group) (count_in boxes across down own) 0) (range_with_len 0 n)
    ∙ ap (λ k. sum_by (count_but boxes across down (Some own)) (range_with_len 0 n) + k)
    (one_counts own (count_in boxes across down own) 0 n (omega arith) (omega (arith, below)))

but_few : (boxes : Indexed) (across down : Span) (own : Option ℕ) (group : ℕ) → count_but boxes across down own group ≤ count_in boxes across down group
but_few boxes across down own group = few (is_own own group)
  where
    few : (b : Bool) → cond b 0 (count_in boxes across down group) ≤ count_in boxes across down group
    few true = omega arith
    few false = omega arith

-- the groups so far and the next one hold no more than all
pub but_fits : (boxes : Indexed) (across down : Span) (own : Option ℕ) (group n : ℕ) → group < n
    → sum_by (count_but boxes across down own) (range_with_len 0 group) + count_but boxes across down own group ≤ sum_by (count_in boxes across down) (range_with_len 0 n)
but_fits boxes across down own group n below =
    let less : sum_by (count_but boxes across down own) (range_with_len 0 group) ≤ sum_by (count_in boxes across down) (range_with_len 0 group) =
    sum_by-le-sum_by (count_but boxes across down own) (count_in boxes across down) (range_with_len 0 group) (but_few boxes across down own) in
    let more : sum_by (count_in boxes across down) (range_with_len 0 (group + 1)) ≡ sum_by (count_in boxes across down) (range_with_len 0 group) + count_in boxes across down (0 + group) =
    sum_more (count_in boxes across down) 0 group in
    let same : count_in boxes across down (0 + group) ≡ count_in boxes across down group = ap (count_in boxes across down) (omega arith) in
    omega (arith, less, but_few boxes across down own group, more, same, sum_grows (count_in boxes across down) 0 (group + 1) n (omega (arith, below)))

-- one group more
pub but_more : (boxes : Indexed) (across down : Span) (own : Option ℕ) (group : ℕ)
    → sum_by (count_but boxes across down own) (range_with_len 0 (group + 1))
    ≡ sum_by (count_but boxes across down own) (range_with_len 0 group) + count_but boxes across down own group
but_more boxes across down own group =
    sum_more (count_but boxes across down own) 0 group
    ∙ ap (λ k. sum_by (count_but boxes across down own) (range_with_len 0 group) + count_but boxes across down own k) (omega arith)

few : {A : Type 0} (b : Bool) (x : A) (kept xs : List A) → length kept ≤ length xs → length (cond b (x ∷ kept) kept) ≤ length (x ∷ xs)
few true x kept xs less = omega (arith, less)
few false x kept xs less = omega (arith, less)

-- no more pass than there are
pub filter_few : {A : Type 0} (p : A → Bool) (xs : List A) → length (filter p xs) ≤ length xs
filter_few p [] = omega arith
filter_few p (x ∷ xs) = few (p x) x (filter p xs) xs (filter_few p xs)

-- ---- all groups

module _ (part : GroupBoxes) (right : TTest → ℤ) (tests : List TTest) (rows : List Row) (width : ℕ) (asked : AskedBox)
    (few : few_groups tests ≡ true) (boxed : is_boxed tests ≡ true) (spans : IsAsked asked right tests)
    (are : AreOthers part tests rows) (fit : All (IsRow width) rows) where
  abbrev boxes : Indexed
  boxes = part.boxes.now

  abbrev in_box : Row → Bool
  in_box row = is_between asked.across.low asked.across.high (along boxes.axes.x row) && is_between asked.down.low asked.down.high (along boxes.axes.y row)

  abbrev none : Row
  none = record { key = 0; values = [] }

  group-counts : (group : ℕ) → count_in boxes asked.across asked.down group
      ≡ length (filter (λ n. in_box (get_or rows n none)) (rows_in part.groups.now group))
  group-counts group =
      let box = is_in asked.across.low asked.across.high asked.down.low asked.down.high in
      sym (length-filter-IsPermutation box (map (point_at boxes.axes rows) (rows_in part.groups.now group)) (get_or boxes.lists group []) (are.turned.held.each group))
      ∙ ap length (filter-map (point_at boxes.axes rows) box (rows_in part.groups.now group))
      ∙ length-map (filter (λ n. in_box (get_or rows n none)) (rows_in part.groups.now group)) (point_at boxes.axes rows)

  in-all : length (filter (λ n. in_box (get_or rows n none)) (range_with_len 0 (length rows))) ≡ length (filter in_box rows)
  in-all =
      ap (λ ns. length (filter (λ n. in_box (get_or rows n none)) ns)) (all_places rows 0)
      ∙ ap length (filter-places (λ row. true) in_box [] rows none)
      ∙ sym (length-map (places in_box rows 0) (λ n. get_or rows n none))
      ∙ ap length (at_places in_box [] rows none)

  -- without an equal test, a row passes the others where it lies in the box
  row-read : (row : Row) → IsRow width row → in_box row ≡ passes_read Away right tests row
  row-read row fits =
      (λ i. is_between asked.across.low asked.across.high (along (are.turned.x i) row) && is_between asked.down.low asked.down.high (along (are.turned.y i) row))
      ∙ ap (λ g. pointwise int_eq (row_key g row) (map right g)
      && (is_between asked.across.low asked.across.high (along (x_of tests) row) && is_between asked.down.low asked.down.high (along (y_of tests) row))) (sym are.alone)
      ∙ sym (boxed_row width Away right tests row (x_of tests) (y_of tests) asked.across asked.down refl (boxed_covered tests boxed) fits spans.across spans.down)

  pub all_in : sum_by (count_in boxes asked.across asked.down) (range_with_len 0 (length part.groups.now.lists)) ≡ length (filter (passes_read Away right tests) rows)
  all_in =
      same_sum (count_in boxes asked.across asked.down) (λ group. length (filter (λ n. in_box (get_or rows n none)) (rows_in part.groups.now group))) group-counts
      (range_with_len 0 (length part.groups.now.lists))
      ∙ are.turned.held.whole (λ n. in_box (get_or rows n none))
      ∙ in-all
      ∙ ap length (filter_agree_on in_box (passes_read Away right tests) rows (λ k d within. row-read (get_or rows k d) (fit k d within)))

  abbrev key : List ℤ
  key = four_of (map right (grouping Alike tests))

  abbrev under : ℕ
  under = count_of asked.across.low asked.across.high asked.down.low asked.down.high (points_under part.groups.now boxes key)

  abbrev but : Option ℕ → ℕ
  but own = sum_by (count_but boxes asked.across asked.down own) (range_with_len 0 (length part.groups.now.lists))

  off : (own : Option ℕ) → number_of part.groups.now key ≡ own
      → under + but own ≡ sum_by (count_in boxes asked.across asked.down) (range_with_len 0 (length part.groups.now.lists))
  off None missing =
      let empty : under ≡ 0 = ap (λ o. count_of asked.across.low asked.across.high asked.down.low asked.down.high (list_if boxes.lists o)) missing in
      ap (λ n. n + but None) empty ∙ omega arith
  off (Some group) there =
      let found : under ≡ count_in boxes asked.across asked.down group =
      ap (λ o. count_of asked.across.low asked.across.high asked.down.low asked.down.high (list_if boxes.lists o)) there in
      omega (arith, found, but_one boxes asked.across asked.down group (length part.groups.now.lists) (are.turned.held.inside key group there))

  -- those of the group with the key of the unequal test are taken off
  pub others_in : (own : Option ℕ) → number_of part.groups.now key ≡ own
      → length (filter (passes_read Alike right tests) rows) + but own ≡ length (filter (passes_read Away right tests) rows)
  others_in own is =
      ap (λ n. n + but own) (sym (read_count part Alike right tests rows width asked refl few boxed spans are.turned fit))
      ∙ off own is
      ∙ all_in
