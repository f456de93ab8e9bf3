-- What a box holds of a group is what the rows that pass the tests give.
use Rattle.std.proofs.Common.{◌≡◌, ℕ, ℤ, ◌+ℤ◌, Some, true, false, ◌&&◌, List, [], ◌∷◌, map, length, get_or, refl, ap, sym, ◌∙◌}
use Rattle.std.specs.Prelude.{filter, All}
use Rattle.std.proofs.lemmas.List.{length-map}
use Rattle.sgl_values.specs.World.{Row, IsRow}
use Rattle.sgl_values.specs.Range.{is_between}
use Rattle.sgl_typed.specs.declared.script.Attr.{Attr}
use Rattle.sgl_typed.specs.declared.script.TTest.{TTest}
use Rattle.sgl_typed.specs.Aggregate.{sum_of}
use Rattle.battle_algebra.specs.Ways.{few_groups, is_boxed, x_of, y_of}
use Rattle.range_aggregate.specs.Boxes.{count_of, is_in, sum_of as weight_in, weight_of}
use Rattle.range_aggregate.proofs.Slices.{filter_both}
use Rattle.range_aggregate.proofs.Weights.{length-filter-IsPermutation, weight_of-filter-IsPermutation}
use Rattle.row_groups.specs.Keys.{along, four_of, has_key}
use Rattle.test_boxes.specs.declared.asked.AskedBox.{AskedBox}
use Rattle.test_boxes.specs.declared.reading.Reading.{Reading}
use Rattle.test_boxes.specs.Forms.{IsAsked}
use Rattle.test_boxes.specs.Readings.{grouping, is_plain, passes_read}
use Rattle.test_boxes.proofs.Boxing.{boxed_row}
use Rattle.test_boxes.proofs.Grouped.{keyed}
use Rattle.test_boxes.proofs.Shapes.{boxed_covered, four_group}
use Rattle.group_boxes.specs.declared.axes.Axes.{Axes}
use Rattle.group_boxes.specs.declared.ranged.GroupBoxes.{GroupBoxes}
use Rattle.group_boxes.specs.Points.{point_of, points_under}
use Rattle.group_boxes.specs.Ranged.{AreBoxesOf}
use Rattle.row_groups.proofs.Filters.{filter-map, filter_agree_on}

-- the points weigh what the attribute of the rows is
weight-rows : (axes : Axes) (attr : Attr) (rows : List Row) → axes.weigh ≡ Some attr → weight_of (map (point_of axes) rows) ≡ sum_of attr rows
weight-rows axes attr [] weighed = refl
weight-rows axes attr (row ∷ rows) weighed = λ i. along (weighed i) row +ℤ weight-rows axes attr rows weighed i

module _ (part : GroupBoxes) (how : Reading) (right : TTest → ℤ) (tests : List TTest) (rows : List Row) (width : ℕ) (asked : AskedBox)
    (np : is_plain how ≡ false) (few : few_groups tests ≡ true) (boxed : is_boxed tests ≡ true) (spans : IsAsked asked right tests)
    (are : AreBoxesOf part how tests rows) (fit : All (IsRow width) rows) where
  -- and its point lies in the box
  row-passes : (row : Row) → IsRow width row
      → (has_key part.groups.now.attrs (four_of (map right (grouping how tests))) row
      && is_in asked.across.low asked.across.high asked.down.low asked.down.high (point_of part.boxes.now.axes row))
      ≡ passes_read how right tests row
  row-passes row fits =
      (λ i. (ap (λ attrs. has_key attrs (four_of (map right (grouping how tests))) row) are.by ∙ keyed how right tests row (four_group how tests few)) i
      && (is_between asked.across.low asked.across.high (along (are.x i) row) && is_between asked.down.low asked.down.high (along (are.y i) row)))
      ∙ sym (boxed_row width how right tests row (x_of tests) (y_of tests) asked.across asked.down np (boxed_covered tests boxed) fits spans.across spans.down)

  kept : filter (is_in asked.across.low asked.across.high asked.down.low asked.down.high)
      (map (point_of part.boxes.now.axes) (filter (has_key part.groups.now.attrs (four_of (map right (grouping how tests)))) rows))
      ≡ map (point_of part.boxes.now.axes) (filter (passes_read how right tests) rows)
  kept =
      filter-map (point_of part.boxes.now.axes) (is_in asked.across.low asked.across.high asked.down.low asked.down.high)
      (filter (has_key part.groups.now.attrs (four_of (map right (grouping how tests)))) rows)
      ∙ ap (map (point_of part.boxes.now.axes))
      (sym (filter_both (has_key part.groups.now.attrs (four_of (map right (grouping how tests))))
      (λ row. is_in asked.across.low asked.across.high asked.down.low asked.down.high (point_of part.boxes.now.axes row)) rows)
      ∙ filter_agree_on _ _ rows (λ k d within. row-passes (get_or rows k d) (fit k d within)))

  pub read_count : count_of asked.across.low asked.across.high asked.down.low asked.down.high (points_under part.groups.now part.boxes.now (four_of (map right (grouping how tests))))
      ≡ length (filter (passes_read how right tests) rows)
  read_count =
      sym (length-filter-IsPermutation (is_in asked.across.low asked.across.high asked.down.low asked.down.high) _
      (points_under part.groups.now part.boxes.now (four_of (map right (grouping how tests)))) (are.held.held (four_of (map right (grouping how tests)))))
      ∙ ap length kept ∙ length-map (filter (passes_read how right tests) rows) (point_of part.boxes.now.axes)

  pub read_sum : (attr : Attr) → part.boxes.now.axes.weigh ≡ Some attr → weight_in asked.across.low asked.across.high asked.down.low asked.down.high (points_under part.groups.now part.boxes.now (four_of (map right (grouping how tests))))
      ≡ sum_of attr (filter (passes_read how right tests) rows)
  read_sum attr weighed =
      sym (weight_of-filter-IsPermutation (is_in asked.across.low asked.across.high asked.down.low asked.down.high) _
      (points_under part.groups.now part.boxes.now (four_of (map right (grouping how tests)))) (are.held.held (four_of (map right (grouping how tests)))))
      ∙ ap weight_of kept ∙ weight-rows part.boxes.now.axes attr (filter (passes_read how right tests) rows) weighed
