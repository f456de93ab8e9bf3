-- The rows that pass are among those of the square around the circle.
use Rattle.std.proofs.Common.{◌≡◌, ◌<◌, ◌≤◌, ◌+ℤ◌, ◌-ℤ◌, ◌∙◌, ℕ, List, Some, ap, length, map, subst, sym}
use Rattle.std.specs.Prelude.{All, filter}
use Rattle.std.specs.List.{find}
use Rattle.std.specs.List.Sorted.{IsPermutation}
use Rattle.std.specs.Option.{option_map}
use Rattle.sgl_values.specs.declared.fault.Val.TheVariants.{N}
use Rattle.sgl_typed.specs.declared.script.TTest.{TTest}
use Rattle.sgl_evaluate.specs.Frame.{context_of}
use Rattle.sgl_evaluate.specs.Rights.{right_of}
use Rattle.battle_algebra.specs.Ways.{is_circle}
use Rattle.row_groups.specs.Groups.{number_of}
use Rattle.row_groups.specs.Keys.{four_of}
use Rattle.row_groups.specs.Ranked.{rows_between}
use Rattle.test_boxes.specs.Readings.{grouping}
use Rattle.test_boxes.specs.declared.reading.Reading.TheVariants.{Away}
use Rattle.index_set.specs.Targets.{passing_rows}
use Rattle.index_set.specs.Walks.{row_passes}
use Rattle.index_set.proofs.Rounding.{none-pass, nothing-made, square-few, square-rest, square-within}
use Rattle.index_set.proofs.round.rounded.Goals as goal

group-is : (c : goal.After-rows_in-square)
    → number_of c.args.round.now.groups (four_of (map (right_of (context_of c.args.asking.now.frame.now)) (grouping Away c.args.agg.now.tests))) ≡ Some c.in-Some-number.group
group-is c =
    let key = c.asked_key-key.ensures ∙ ap (λ tests. four_of (map (right_of (context_of c.args.asking.now.frame.now)) (grouping Away tests))) c.as_slice-tests.ensures in
    ap (number_of c.args.round.now.groups) (sym key) ∙ sym c.number.ensures.value ∙ c.in-Some-number.is

-- the rows of the square are rows of the world, and few
fits : (c : goal.After-rows_in-square)
    → All (λ row. row < length c.args.asking.now.frame.now.tick.world.now.world.rows) c.rows_in-square.result × (length c.rows_in-square.result ≤ 65536)
fits c =
    let context = context_of c.args.asking.now.frame.now in
    let round = c.args.round.now in
    let agg = c.args.agg.now in
    let width = c.args.asking.now.frame.now.tick.world.now.width in
    let rows = c.len.ensures.table.fits.rows_fit in
    let group = c.in-Some-number.group in
    let x = c.around-x.result in
    let y = c.around-y.result in
    let P : List ℕ → Type 0 = λ l. All (λ row. row < length context.world.rows) l × (length l ≤ 65536) in
    subst P (sym c.rows_in-square.ensures) (
      square-within context round agg width c.requires.round rows group (group-is c) x.low x.high y.low y.high,
      square-few context round agg width c.requires.round rows group (group-is c) x.low x.high y.low y.high,
    )

pub total-requires-clause-within : goal.total-requires-clause-within
total-requires-clause-within c = (fits c).0

pub total-requires-clause-few : goal.total-requires-clause-few
total-requires-clause-few c = (fits c).1

pub total-requires-clause-rows : goal.total-requires-clause-rows
total-requires-clause-rows c =
    let context = context_of c.args.asking.now.frame.now in
    let tests = c.args.agg.now.tests in
    let round = c.args.round.now in
    let radius = c.in-Some.radius in
    let asked = sym (c.radius.ensures ∙ ap (λ (ts : List TTest). option_map (right_of context) (find is_circle ts)) c.as_slice-tests.ensures) ∙ c.in-Some.is in
    let x = c.attribute_of.ensures in
    let y = c.attribute_of-in-Some-number.ensures in
    let is = c.rows_in-square.ensures ∙ (λ i. rows_between round.sorted c.in-Some-number.group
    ((c.around-x.ensures.low ∙ ap (λ z. z -ℤ radius) x) i) ((c.around-x.ensures.high ∙ ap (λ z. z +ℤ radius) x) i)
    ((c.around-y.ensures.low ∙ ap (λ z. z -ℤ radius) y) i) ((c.around-y.ensures.high ∙ ap (λ z. z +ℤ radius) y) i)) in
    subst (λ rows. IsPermutation (passing_rows context tests) (filter (row_passes context tests) rows)) (sym is)
    (square-rest context round c.args.agg.now c.args.asking.now.frame.now.tick.world.now.width c.requires.round c.len.ensures.table.fits.rows_fit c.in-Some-number.group (group-is c) radius asked)

pub returns-in-None-number : goal.returns-in-None-number
returns-in-None-number c =
    let context = context_of c.args.asking.now.frame.now in
    let agg = c.args.agg.now in
    let key = c.asked_key-key.ensures ∙ ap (λ tests. four_of (map (right_of context) (grouping Away tests))) c.as_slice-tests.ensures in
    let missing = ap (number_of c.args.round.now.groups) (sym key) ∙ sym c.number.ensures.value ∙ c.in-None-number.is in
    ap N c.zero.ensures
    ∙ nothing-made agg.kind agg context.unit _ c.requires.round.total
    (none-pass context c.args.round.now agg c.args.asking.now.frame.now.tick.world.now.width c.requires.round c.len.ensures.table.fits.rows_fit missing)
