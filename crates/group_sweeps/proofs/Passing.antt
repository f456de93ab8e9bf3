-- The rows that pass are those of the group with the key that is asked for that are seen in the window.
use Rattle.std.proofs.Common.{◌≡◌, ℕ, ℤ, Bool, true, false, ◌&&◌, List, map, get_or, Option, None, Some, refl, ap, sym, ◌∙◌}
use Rattle.std.specs.Prelude.{filter, All}
use Rattle.std.specs.Option.{option_map}
use Rattle.std.specs.Ordering.{int_eq}
use Rattle.std.specs.Cmp.Lexicographic.{pointwise}
use Rattle.sgl_values.specs.Least.{least_of}
use Rattle.sgl_values.specs.World.{Row, IsRow}
use Rattle.sgl_typed.specs.declared.script.TAgg.{TAgg}
use Rattle.sgl_typed.specs.Value.{Context}
use Rattle.sgl_evaluate.specs.Rights.{passes_each, right_of}
use Rattle.battle_algebra.specs.Ways.{attr_of, few_groups, is_boxed, x_of, y_of}
use Rattle.range_aggregate.proofs.Slices.{filter_both}
use Rattle.extreme_sweep.specs.declared.pair.Entry.{Entry}
use Rattle.extreme_sweep.specs.declared.window.Window.{Window}
use Rattle.extreme_sweep.specs.Pairs.{is_other_than}
use Rattle.extreme_sweep.specs.Windows.{least_inside}
use Rattle.row_groups.specs.Keys.{along, has_key}
use Rattle.test_boxes.specs.declared.reading.Reading.TheVariants.{Away}
use Rattle.test_boxes.specs.Others.{is_unlike, other_asked}
use Rattle.test_boxes.specs.Ranges.{passes_along}
use Rattle.test_boxes.specs.Readings.{grouping, passes_unequal, row_key}
use Rattle.test_boxes.proofs.Boxing.{along_held, boxed}
use Rattle.test_boxes.proofs.Grouped.{keyed, other_is}
use Rattle.test_boxes.proofs.Shapes.{boxed_covered, boxed_no_circle, four_group, one_unequal}
use Rattle.test_boxes.proofs.TakenOff.{each_read, plain_is}
use Rattle.group_sweeps.specs.Asks.{IsWindow, asked_key}
use Rattle.group_sweeps.specs.Extremes.{order_of, pair_of, sides_of, sweep_point}
use Rattle.row_groups.proofs.Filters.{filter_agree_on}
use Rattle.group_sweeps.proofs.Least.{is_seen, window_rows}

-- an entry is another than those that are left out where its value is
other-entry : (other : Option ℤ) (entry : Entry) → is_other_than other entry ≡ is_unlike other entry.group
other-entry None entry = refl
other-entry (Some group) entry = refl

module _ (agg : TAgg) (c : Context) (width : ℕ) (few : few_groups agg.tests ≡ true) (fits_box : is_boxed agg.tests ≡ true) where
  -- the row has the key that is asked for
  abbrev pub is_member : Row → Bool
  is_member row = has_key (map attr_of (grouping Away agg.tests)) (asked_key c agg.tests) row

  -- its numbers pass the range tests, and it passes the unequal test
  abbrev pub is_inside_all : Row → Bool
  is_inside_all row = (passes_along (x_of agg.tests) (right_of c) agg.tests (along (x_of agg.tests) row)
      && passes_along (y_of agg.tests) (right_of c) agg.tests (along (y_of agg.tests) row)) && passes_unequal (right_of c) agg.tests row

  regroup : (g xy o : Bool) → ((g && xy) && o) ≡ (g && (xy && o))
  regroup true xy o = refl
  regroup false xy o = refl

  pub passes_parts : (row : Row) → passes_each c agg.tests row ≡ (is_member row && is_inside_all row)
  passes_parts row =
      each_read c agg.tests row (boxed_no_circle agg.tests fits_box)
      ∙ plain_is (right_of c) agg.tests row
      ∙ ap (λ b. b && passes_unequal (right_of c) agg.tests row) (boxed Away (right_of c) agg.tests row (x_of agg.tests) (y_of agg.tests) refl (boxed_covered agg.tests fits_box))
      ∙ regroup (pointwise int_eq (row_key (grouping Away agg.tests) row) (map (right_of c) (grouping Away agg.tests)))
      (passes_along (x_of agg.tests) (right_of c) agg.tests (along (x_of agg.tests) row) && passes_along (y_of agg.tests) (right_of c) agg.tests (along (y_of agg.tests) row))
      (passes_unequal (right_of c) agg.tests row)
      ∙ ap (λ b. b && is_inside_all row) (sym (keyed Away (right_of c) agg.tests row (four_group Away agg.tests few)))

  -- the rows that pass are those of the group that pass the other tests
  pub passing_members : (rows : List Row) → filter (passes_each c agg.tests) rows ≡ filter is_inside_all (filter is_member rows)
  passing_members rows =
      filter_agree_on (passes_each c agg.tests) (λ row. is_member row && is_inside_all row) rows (λ k d inside. passes_parts (get_or rows k d))
      ∙ filter_both is_member is_inside_all rows

  module _ (w : Window) (window : IsWindow c agg.tests w) where
    seen-is : (row : Row) → IsRow width row → is_seen (sides_of agg) w row ≡ is_inside_all row
    seen-is row fits =
        (λ i. (along_held width (x_of agg.tests) (right_of c) agg.tests row (record { low = w.x1; high = w.x2 }) fits window.x i
        && along_held width (y_of agg.tests) (right_of c) agg.tests row (record { low = w.y1; high = w.y2 }) fits window.y i)
        && is_other_than (window.other i) (sweep_point (sides_of agg) row).entry)
        ∙ ap (λ b. (passes_along (x_of agg.tests) (right_of c) agg.tests (along (x_of agg.tests) row)
        && passes_along (y_of agg.tests) (right_of c) agg.tests (along (y_of agg.tests) row)) && b)
        (other-entry (other_asked (right_of c) agg.tests) (sweep_point (sides_of agg) row).entry ∙ sym (other_is (right_of c) agg.tests row (one_unequal agg.tests few)))

    -- the least pair of the window, of the points of the group, is that of the least row that passes
    pub least_is_passing : (rows : List Row) → All (IsRow width) rows
        → least_inside (map (sweep_point (sides_of agg)) (filter is_member rows)) w
        ≡ option_map (pair_of (sides_of agg).falling agg.attr) (least_of (order_of (sides_of agg).falling agg.attr) (filter (passes_each c agg.tests) rows))
    least_is_passing rows fit =
        window_rows (sides_of agg) (filter is_member rows) w
        ∙ ap (λ rs. option_map (pair_of (sides_of agg).falling agg.attr) (least_of (order_of (sides_of agg).falling agg.attr) rs))
        (sym (filter_both is_member (is_seen (sides_of agg) w) rows)
        ∙ filter_agree_on (λ row. is_member row && is_seen (sides_of agg) w row) (λ row. is_member row && is_inside_all row) rows
        (λ k d inside. ap (λ b. is_member (get_or rows k d) && b) (seen-is (get_or rows k d) (fit k d inside)))
        ∙ filter_both is_member is_inside_all rows
        ∙ sym (passing_members rows))
