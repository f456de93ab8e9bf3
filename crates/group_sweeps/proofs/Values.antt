-- What a sweep finds for a row is the value of the aggregate, where no right side has a fault.
use Rattle.std.proofs.Common.{◌≡◌, ℕ, ℤ, pos, Bool, true, false, ◌&&◌, List, [], map, get_or, Option, None, Some, refl, ap, sym, ◌∙◌, subst, arith}
use Rattle.std.specs.Prelude.{filter, All}
use Rattle.std.specs.Option.{option_map}
use Rattle.std.proofs.lemmas.Int.{ints}
use Rattle.sgl_values.specs.Least.{least_of}
use Rattle.sgl_values.specs.World.{Row, World, IsRow, row_at}
use Rattle.sgl_values.specs.declared.fault.Fault.{Fault as AFault}
use Rattle.sgl_values.specs.Range.{is_between}
use Rattle.sgl_typed.specs.declared.script.TAgg.{TAgg}
use Rattle.sgl_typed.specs.Aggregate.{aggregate}
use Rattle.sgl_typed.specs.Value.{Context}
use Rattle.sgl_evaluate.specs.Rights.{first_fault_of, passes_each}
use Rattle.battle_algebra.specs.Ways.{attr_of, few_groups, is_boxed}
use Rattle.rank_table.proofs.Ranking.{filter_none}
use Rattle.extreme_sweep.specs.declared.pair.Pair.{Pair}
use Rattle.extreme_sweep.specs.declared.window.SweepPoint.{SweepPoint}
use Rattle.extreme_sweep.specs.declared.window.Window.{Window}
use Rattle.extreme_sweep.specs.Pairs.{least_other_than}
use Rattle.extreme_sweep.specs.Windows.{is_inside, least_inside}
use Rattle.row_groups.specs.Groups.{Grouping, IsGroups, rows_if, rows_in}
use Rattle.row_groups.specs.Keys.{has_key}
use Rattle.row_groups.specs.Places.{places}
use Rattle.row_groups.proofs.Placing.{at_places}
use Rattle.test_boxes.specs.Readings.{grouping}
use Rattle.test_boxes.specs.declared.reading.Reading.TheVariants.{Away}
use Rattle.group_sweeps.specs.declared.ask.Ask.{Ask}
use Rattle.group_sweeps.specs.declared.found.Found.{Found}
use Rattle.group_sweeps.specs.Asks.{AsksBy, asked_group, asked_key, no_window}
use Rattle.group_sweeps.specs.Extremes.{is_extreme, is_falling, order_of, pair_of, sides_of, sweep_point, target_of}
use Rattle.group_sweeps.specs.Finds.{point_by}
use Rattle.group_sweeps.specs.Found.{IsFoundOf, found_value}
use Rattle.group_sweeps.proofs.Extremes.{found_is}
use Rattle.row_groups.proofs.Filters.{map-map}
use Rattle.group_sweeps.proofs.Passing.{is_inside_all, least_is_passing, passing_members}

-- ---- where nothing is asked for

reversed : (z : ℤ) → is_between (pos 1) (pos 0) z ≡ false
reversed z = grind (arith, ints)

outside : (point : SweepPoint) → is_inside no_window point ≡ false
outside point = ap (λ b. b && is_between (pos 1) (pos 0) point.y) (reversed point.x)

none-inside : (points : List SweepPoint) → least_inside points no_window ≡ None
none-inside points =
    ap (λ (ps : List SweepPoint). least_other_than None (map (λ (p : SweepPoint). p.entry) ps)) (filter_none (is_inside no_window) points (λ k d inside. outside (get_or points k d)))

-- ---- the rows of a list of numbers

abbrev none : Row
none = record { key = 0; values = [] }

rows-at : (p : Row → Bool) (world : World) → map (row_at world) (places p world.rows 0) ≡ filter p world.rows
rows-at p world = at_places p [] world.rows none

module _ (agg : TAgg) (c : Context) (width : ℕ) (faults : List AFault) (groups : Grouping) (ask : Ask) (found : Found)
    (extreme : is_extreme agg.kind ≡ true) (few : few_groups agg.tests ≡ true) (fits_box : is_boxed agg.tests ≡ true) (fit : All (IsRow width) c.world.rows)
    (sound : None ≡ first_fault_of c agg.tests) (are : IsGroups groups (map attr_of (grouping Away agg.tests)) c.world.rows)
    (right : IsFoundOf c.world (least_inside (map (point_by (sides_of agg) c.world) (rows_in groups ask.group)) ask.window) found) where
  abbrev member : Row → Bool
  member row = has_key (map attr_of (grouping Away agg.tests)) (asked_key c agg.tests) row

  abbrev FoundLeast : List Row → Type 0
  FoundLeast rows = IsFoundOf c.world (option_map (pair_of (is_falling agg.kind) agg.attr) (least_of (order_of (is_falling agg.kind) agg.attr) rows)) found

  -- no row passes
  none-pass : asked_group c agg.tests groups ≡ None → filter (passes_each c agg.tests) c.world.rows ≡ []
  none-pass missing =
      let empty : [] ≡ places member c.world.rows 0 = ap (rows_if groups.lists) (sym missing) ∙ are.held (asked_key c agg.tests) in
      let alone : filter member c.world.rows ≡ [] = sym (rows-at member c.world) ∙ ap (map (row_at c.world)) (sym empty) in
      passing_members agg c width few fits_box c.world.rows ∙ ap (filter (is_inside_all agg c width few fits_box)) alone

  points-are : (group : ℕ) → ask.group ≡ group → asked_group c agg.tests groups ≡ Some group
      → map (point_by (sides_of agg) c.world) (rows_in groups ask.group) ≡ map (sweep_point (sides_of agg)) (filter member c.world.rows)
  points-are group is there =
      ap (map (point_by (sides_of agg) c.world)) (ap (rows_in groups) is ∙ ap (rows_if groups.lists) (sym there) ∙ are.held (asked_key c agg.tests))
      ∙ sym (map-map (row_at c.world) (sweep_point (sides_of agg)) (places member c.world.rows 0))
      ∙ ap (map (sweep_point (sides_of agg))) (rows-at member c.world)

  by-group : (o : Option ℕ) → asked_group c agg.tests groups ≡ o → AsksBy None o c agg.tests ask
      → found_value c.world (target_of agg.kind agg.attr) agg.otherwise faults found ≡ aggregate agg c c.slots
  by-group None missing asks =
      let W : Window → Type 0 = λ w. IsFoundOf c.world (least_inside (map (point_by (sides_of agg) c.world) (rows_in groups ask.group)) w) found in
      let P : Option Pair → Type 0 = λ o. IsFoundOf c.world o found in
      let nothing = subst P (none-inside (map (point_by (sides_of agg) c.world) (rows_in groups ask.group))) (subst W asks.1 right) in
      found_is agg c faults found extreme sound (subst FoundLeast (sym (none-pass missing)) nothing)
  by-group (Some group) there asks =
      let P : Option Pair → Type 0 = λ o. IsFoundOf c.world o found in
      found_is agg c faults found extreme sound
      (subst P (ap (λ ps. least_inside ps ask.window) (points-are group asks.0 there) ∙ least_is_passing agg c width few fits_box ask.window asks.1 c.world.rows fit) right)

  -- the value of a row without a fault
  pub row_value : AsksBy (first_fault_of c agg.tests) (asked_group c agg.tests groups) c agg.tests ask
      → found_value c.world (target_of agg.kind agg.attr) agg.otherwise faults found ≡ aggregate agg c c.slots
  row_value asks =
      let R : Option AFault → Type 0 = λ f. AsksBy f (asked_group c agg.tests groups) c agg.tests ask in
      by-group (asked_group c agg.tests groups) refl (subst R (sym sound) asks)
