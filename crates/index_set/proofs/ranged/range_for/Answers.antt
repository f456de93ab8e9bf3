use Rattle.std.proofs.Common.{◌≡◌, true, List, Some, map, ap, sym, ◌∙◌}
use Rattle.std.specs.List.{list_any}
use Rattle.sgl_values.specs.World.{Row}
use Rattle.sgl_typed.specs.declared.script.TAgg.{TAgg}
use Rattle.battle_algebra.specs.Ways.{attr_of, few_groups, is_boxed, is_unequal_test}
use Rattle.group_boxes.specs.Ranged.{is_total}
use Rattle.test_boxes.specs.Readings.{grouping}
use Rattle.test_boxes.specs.declared.reading.Reading.TheVariants.{Alike}
use Rattle.index_set.specs.Kept.{axes_of, HasParts, IsRangedAt}
use Rattle.index_set.specs.declared.ranged.RangedAt.{RangedAt}
use Rattle.index_set.specs.declared.ranged.RangedAt.TheVariants.{Others, Parts}
use Rattle.index_set.specs.declared.shelf.Shelf.{Shelf}
use Rattle.index_set.proofs.Ranging.{none_unequal, only_unequal}
use Rattle.index_set.proofs.Shelving.{part_stays}
use Rattle.index_set.proofs.ranged.range_for.Goals as goal

own : (shelf : Shelf) (at : RangedAt) (agg : TAgg) (rows : List Row) → is_total agg.kind ≡ true → few_groups agg.tests ≡ true → is_boxed agg.tests ≡ true
    → HasParts shelf at agg rows → IsRangedAt shelf at agg rows
own shelf at agg rows total few boxed parts = record { total = total; few = few; boxed = boxed; parts = parts }

pub returns-clause-ranged : goal.returns-clause-ranged
returns-clause-ranged g c = record {
  total = c.requires.total;
  few = c.requires.few;
  boxed = c.requires.boxed;
  parts = record {
    away = c.in_ok-away-2.ensures.part;
    turned = none_unequal c.args.agg.now.tests (ap (list_any is_unequal_test) (sym c.as_slice-tests.ensures) ∙ sym c.if-has_unequal.ensures);
  };
}

pub returns-then-has_few-clause-ranged : goal.returns-then-has_few-clause-ranged
returns-then-has_few-clause-ranged g c =
    own c.part_by.new.shelf (Others c.in_ok-turned.turned) c.args.agg.now c.args.world.now.world.rows c.requires.total c.requires.few c.requires.boxed (record {
      counts = c.counts_alone.ensures.counts c.if-counts_alone.true;
      one = only_unequal c.args.agg.now.tests (ap (list_any is_unequal_test) (sym c.as_slice-tests.ensures) ∙ sym c.has_unequal.ensures ∙ c.if-has_unequal.true) c.requires.few;
      alone = c.counts_alone.ensures.alone c.if-counts_alone.true;
      part = c.in_ok-turned.ensures.part;
    })

pub returns-then-has_unequal-clause-ranged : goal.returns-then-has_unequal-clause-ranged
returns-then-has_unequal-clause-ranged g c = own c.part_by-then-has_unequal.new.shelf (Parts c.in_ok-away.away (Some c.in_ok-turned.turned)) c.args.agg.now c.args.world.now.world.rows
    c.requires.total c.requires.few c.requires.boxed (record {
      away = c.in_ok-away.ensures.part;
      turned = (
        only_unequal c.args.agg.now.tests (ap (list_any is_unequal_test) (sym c.as_slice-tests.ensures) ∙ sym c.has_unequal.ensures ∙ c.if-has_unequal.true) c.requires.few,
        part_stays c.part_by.new.shelf c.part_by-then-has_unequal.new.shelf c.in_ok-turned.turned (map attr_of (grouping Alike c.args.agg.now.tests)) (axes_of c.args.agg.now)
            c.args.world.now.world.rows c.in_ok-away.ensures.grows c.in_ok-turned.ensures.part,
      );
    })
