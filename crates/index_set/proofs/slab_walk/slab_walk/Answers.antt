use Rattle.std.proofs.Common.{rules, ◌≡◌, ◌≤◌, ◌<◌, ℕ, List, Option, length, map, true, ap, sym, subst, ◌∙◌}
use Rattle.std.specs.Prelude.{All, filter}
use Rattle.std.specs.List.Sorted.{IsPermutation}
use Rattle.std.proofs.lemmas.Option.{none-some}
use Rattle.sgl_typed.specs.declared.script.Attr.{Attr}
use Rattle.sgl_evaluate.specs.Frame.{context_of}
use Rattle.sgl_evaluate.specs.Rights.{right_of}
use Rattle.row_groups.specs.Groups.{number_of}
use Rattle.row_groups.specs.Keys.{four_of}
use Rattle.test_boxes.specs.Ranges.{IsSpan}
use Rattle.test_boxes.specs.Readings.{grouping}
use Rattle.index_set.specs.Others.{others_rest, rows_asked, rows_but}
use Rattle.index_set.specs.Targets.{passing_rows}
use Rattle.index_set.specs.declared.walk.Walk.{Walk as AWalk}
use Rattle.index_set.specs.Walks.{row_passes, walk_rest, AsksEnough}
use Rattle.index_set.proofs.Aiming.{same_rows}
use Rattle.index_set.proofs.Apart.{alike_left, away_left}
use Rattle.index_set.proofs.Leaving.{strip_asks, strip_walked}
use Rattle.index_set.proofs.Intervals.{no_strip, strip_is_within, strip_rest}
use Rattle.index_set.proofs.Slabbing.{slab_away, slab_few, slab_others, slab_past}
use Rattle.index_set.proofs.slab_walk.slab_walk.Goals as goal

pub of-requires : goal.of-requires
of-requires c = λ group past.
    slab_past (context_of c.args.asking.now.frame.now) c.args.tests.now c.args.asking.now.frame.now.tick.world.now.width c.args.slab c.asked_box-asked.result
    c.len.ensures.table.fits.rows_fit c.requires.slab (sym c.is_others.ensures ∙ c.if-is_others.true) c.asked_box-asked.ensures
    group (subst (λ n. n ≤ group) c.len-then-is_others.ensures.value past)

-- where strips of all groups but one are walked, their rows are those that pass
walked : (c : goal.After-of) → All (λ row. row < length c.args.asking.now.frame.now.tick.world.now.world.rows) (others_rest c.of.result)
    × IsPermutation (passing_rows (context_of c.args.asking.now.frame.now) c.args.tests.now)
    (filter (row_passes (context_of c.args.asking.now.frame.now) c.args.tests.now) (others_rest c.of.result))
    × All (λ row. row_passes (context_of c.args.asking.now.frame.now) c.args.tests.now row ≡ true) (others_rest c.of.result)
walked c =
    let slab = c.args.slab in
    let others = sym c.is_others.ensures ∙ c.if-is_others.true in
    let key = ap (λ how. four_of (map (right_of (context_of c.args.asking.now.frame.now)) (grouping how c.args.tests.now))) (sym (c.reading.ensures ∙ alike_left slab.left others)) ∙ sym c.asked_key.ensures in
    slab_others (context_of c.args.asking.now.frame.now) c.args.tests.now c.args.asking.now.frame.now.tick.world.now.width slab c.asked_box-asked.result c.number-group.result
    (others_rest c.of.result) c.len.ensures.table.fits.rows_fit c.requires.slab others c.asked_box-asked.ensures (ap (number_of slab.groups.now) key ∙ sym c.number-group.ensures.value)
    (c.of.ensures ∙ ap (rows_but c.number-group.result (rows_asked slab.sorted.now c.asked_box-asked.result) 0) c.len-then-is_others.ensures.value)

pub returns-then-is_others : goal.returns-then-is_others
returns-then-is_others c = record {
  within = (walked c).0;
  rest = (walked c).1;
  enough = (λ exact. (walked c).2, λ number none. absurd (none-some number none));
}

pub returns-in-None : goal.returns-in-None
returns-in-None c =
    let slab = c.args.slab in
    let world = c.args.asking.now.frame.now.tick.world.now in
    let own = sym c.is_others.ensures ∙ c.if-is_others.false in
    let key = ap (λ how. four_of (map (right_of (context_of c.args.asking.now.frame.now)) (grouping how c.args.tests.now))) (sym (c.reading.ensures ∙ away_left slab.left own)) ∙ sym c.asked_key.ensures in
    record {
      within = search rules;
      rest = same_rows _ _ (no_strip (context_of c.args.asking.now.frame.now) c.args.tests.now world.width slab.groups.now slab.sorted.now slab.axis slab.across
          c.len.ensures.table.fits.rows_fit (slab_away slab c.args.tests.now world.world c.requires.slab own) c.requires.slab.sorted.of
          (ap (number_of slab.groups.now) key ∙ sym c.number-group.ensures.value ∙ c.in-None.is));
      enough = search rules;
    }

pub returns-in-Some : goal.returns-in-Some
returns-in-Some c =
    let slab = c.args.slab in
    let world = c.args.asking.now.frame.now.tick.world.now in
    let ctx = context_of c.args.asking.now.frame.now in
    let tests = c.args.tests.now in
    let box = c.asked_box-asked-in-Some.result in
    let fit = c.len.ensures.table.fits.rows_fit in
    let own = sym c.is_others.ensures ∙ c.if-is_others.false in
    let away = slab_away slab tests world.world c.requires.slab own in
    let key = ap (λ how. four_of (map (right_of ctx) (grouping how tests))) (sym (c.reading.ensures ∙ away_left slab.left own)) ∙ sym c.asked_key.ensures in
    let there = ap (number_of slab.groups.now) key ∙ sym c.number-group.ensures.value ∙ c.in-Some.is in
    let along = subst (λ (axis : Option Attr). IsSpan box.across axis (right_of ctx) tests) (sym c.requires.slab.axis) c.asked_box-asked-in-Some.ensures.across in
    let down = subst (λ (across : Option Attr). IsSpan box.down across (right_of ctx) tests) (sym c.requires.slab.across) c.asked_box-asked-in-Some.ensures.down in
    let walked = sym (ap walk_rest c.strip_walk.ensures ∙ strip_walked slab.left _) in
    record {
      within = subst (λ (rows : List ℕ). All (λ row. row < length world.world.rows) rows) walked
          (strip_is_within ctx tests world.width slab.groups.now slab.sorted.now slab.axis slab.across fit away c.requires.slab.sorted.of
          c.in-Some.group there c.requires.slab.sorted.held box.across.low box.across.high box.down.low box.down.high);
      rest = subst (λ (rows : List ℕ). IsPermutation (passing_rows ctx tests) (filter (row_passes ctx tests) rows)) walked
          (strip_rest ctx tests world.width slab.groups.now slab.sorted.now slab.axis slab.across fit away c.requires.slab.sorted.of
          c.in-Some.group there c.requires.slab.sorted.held box.across box.down along down);
      enough = subst (λ (walk : AWalk). AsksEnough ctx tests walk) (sym c.strip_walk.ensures)
          (strip_asks ctx tests world.width slab.groups.now slab.sorted.now slab.axis slab.across fit away
          (slab_few slab tests world.world c.requires.slab own) c.requires.slab.sorted.of box.across box.down along down
          c.in-Some.group there c.requires.slab.sorted.held slab.left c.requires.slab.left);
    }
