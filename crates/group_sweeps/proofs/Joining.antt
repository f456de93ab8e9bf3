-- The parts of a sweep joined.
use Rattle.std.proofs.Common.{◌≡◌, ℕ, ℤ, ◌<◌, true, List, [], map, length, get_or, Option, None, Some, refl, ap, sym, ◌∙◌, subst, arith}
use Rattle.std.specs.Prelude.{All}
use Rattle.std.specs.Cmp.Lexicographic.{pointwise_decides}
use Rattle.std.proofs.lemmas.Bool.Decides.{Decides-int_eq}
use Rattle.std.proofs.lemmas.List.{get_or_default}
use Rattle.std.proofs.lemmas.List.Elements.{All-map}
use Rattle.sgl_values.specs.World.{Row, World}
use Rattle.sgl_values.specs.declared.fault.Fault.{Fault as AFault}
use Rattle.sgl_typed.specs.declared.script.Attr.{Attr}
use Rattle.sgl_typed.specs.declared.script.TExpr.{TExpr}
use Rattle.sgl_typed.specs.declared.script.TScript.{TScript}
use Rattle.sgl_typed.specs.declared.script.TTest.{TTest}
use Rattle.sgl_typed.specs.Value.{Context}
use Rattle.sgl_evaluate.specs.Rights.{first_fault_of}
use Rattle.row_groups.specs.Groups.{Grouping, IsGroups, number_of, rows_if}
use Rattle.row_groups.specs.Keys.{four_of, has_key, row_values}
use Rattle.row_groups.specs.Places.{places}
use Rattle.row_groups.proofs.Placing.{place_in}
use Rattle.group_sweeps.specs.declared.ask.Ask.{Ask}
use Rattle.group_sweeps.specs.Acting.{acting}
use Rattle.sgl_typed.specs.declared.script.TAgg.{TAgg}
use Rattle.sgl_typed.specs.Aggregate.{aggregate}
use Rattle.battle_algebra.specs.Ways.{attr_of, few_groups, is_boxed}
use Rattle.test_boxes.specs.Readings.{grouping}
use Rattle.test_boxes.specs.declared.reading.Reading.TheVariants.{Away}
use Rattle.sgl_values.specs.World.{IsRow}
use Rattle.group_sweeps.specs.declared.found.Found.{Found}
use Rattle.group_sweeps.specs.Asks.{AreAsks, AsksBy, ask_at, asked_group, asked_key, groups_asked, no_ask}
use Rattle.group_sweeps.specs.Extremes.{is_extreme, sides_of, target_of}
use Rattle.group_sweeps.specs.Faults.{ArePut}
use Rattle.group_sweeps.specs.Finds.{FindsAll, found_at, point_by}
use Rattle.group_sweeps.specs.Found.{found_value}
use Rattle.group_sweeps.proofs.Faulting.{put_value}
use Rattle.group_sweeps.proofs.Values.{row_value}

below-by : (f : Option AFault) (o : Option ℕ) (c : Context) (tests : List TTest) (ask : Ask) (n : ℕ) → AsksBy f o c tests ask → 0 < n → ((number : ℕ) → o ≡ Some number → number < n) → ask.group < n
below-by (Some fault) o c tests ask n is some below = omega (arith, is, some)
below-by None None c tests ask n is some below = omega (arith, is.0, some)
below-by None (Some group) c tests ask n is some below = let here = below group refl in omega (arith, is.0, here)

-- where there is a row, there is a group
some-group : (groups : Grouping) (attrs : List Attr) (rows : List Row) → IsGroups groups attrs rows → 0 < length rows → 0 < length groups.lists
some-group groups attrs rows are some = by (number_of groups key) refl
  where
    row : Row
    row = get_or rows 0 (record { key = 0; values = [] })

    key : List ℤ
    key = four_of (row_values attrs row)

    by : (o : Option ℕ) → number_of groups key ≡ o → 0 < length groups.lists
    by None missing =
        let there = place_in (has_key attrs key) rows 0 0 (record { key = 0; values = [] }) some ((pointwise_decides Decides-int_eq key key).1 refl) in
        let empty : [] ≡ places (has_key attrs key) rows 0 = ap (rows_if groups.lists) (sym missing) ∙ are.held key in
        absurd (omega (arith, there.1, ap length empty))
    by (Some group) found = let lt = are.inside key group found in omega (arith, lt)

module _ (script : TScript) (world : World) (seed : ℕ) (tests : List TTest) (args : List TExpr) (groups : Grouping) (attrs : List Attr) (asks : List Ask)
    (are : IsGroups groups attrs world.rows) (asked : AreAsks script world seed tests args groups (length world.rows) asks) where
  -- each row asks for a group that is there
  pub ask_below : (row : ℕ) → row < length world.rows → (ask_at asks row).group < length groups.lists
  ask_below row inside =
      let c = acting script world seed row args in
      below-by (first_fault_of c tests) (asked_group c tests groups) c tests (ask_at asks row) (length groups.lists) (asked.each row inside).asks
      (some-group groups attrs world.rows are (omega (arith, inside)))
      (are.inside (asked_key c tests))

  pub asked_below : All (λ group. group < length groups.lists) (groups_asked asks)
  asked_below =
      All-map (λ group. group < length groups.lists) (λ (ask : Ask). ask.group) asks (λ k d inside.
      let within : k < length world.rows = omega (arith, inside, asked.all) in
      let P : Ask → Type 0 = λ ask. ask.group < length groups.lists in
      subst P (get_or_default asks k no_ask d inside) (ask_below k within))

-- what all rows have found, with the faults in their places, are the values of the aggregate
pub swept_answers : (script : TScript) (world : World) (width seed : ℕ) (agg : TAgg) (args : List TExpr) (groups : Grouping) (asks : List Ask) (old new : List Found) (faults : List AFault)
    → is_extreme agg.kind ≡ true → few_groups agg.tests ≡ true → is_boxed agg.tests ≡ true → All (IsRow width) world.rows
    → IsGroups groups (map attr_of (grouping Away agg.tests)) world.rows → AreAsks script world seed agg.tests args groups (length world.rows) asks
    → FindsAll world (point_by (sides_of agg) world) groups.lists asks (length groups.lists) old → ArePut asks (length asks) faults old new
    → (row : ℕ) → row < length world.rows
    → found_value world (target_of agg.kind agg.attr) agg.otherwise faults (found_at new row) ≡ aggregate agg (acting script world seed row args) (acting script world seed row args).slots
swept_answers script world width seed agg args groups asks old new faults extreme few fits_box fit are asked finds put row inside =
    let c = acting script world seed row args in
    let ask = ask_at asks row in
    let within : row < length asks = omega (arith, inside, asked.all) in
    let own = asked.each row inside in
    put_value agg c faults (found_at old row) (found_at new row) ask.fault own.fault (put.done row within)
    (λ sound. row_value agg c width faults groups ask (found_at old row) extreme few fits_box fit sound are
    (finds row within (ask_below script world seed agg.tests args groups (map attr_of (grouping Away agg.tests)) asks are asked row inside)) own.asks)
