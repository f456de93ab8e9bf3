use Rattle.std.proofs.Common.{◌≤◌, length, List, ap, map, subst, sym, ◌∙◌}
use Rattle.std.specs.Prelude.{IfOk}
use Rattle.sgl_typed.specs.declared.script.Attr.{Attr}
use Rattle.sgl_typed.specs.declared.script.TTest.{TTest}
use Rattle.battle_algebra.specs.Ways.{attr_of}
use Rattle.group_boxes.specs.declared.axes.Axes.{Axes}
use Rattle.test_boxes.specs.Readings.{grouping}
use Rattle.test_boxes.proofs.Shapes.{four_group}
use Rattle.index_set.specs.Kept.{axes_of}
use Rattle.index_set.specs.Shelves.{IsPart}
use Rattle.index_set.proofs.ranged.part_by.Goals as goal

pub of-attrs-requires : goal.of-attrs-requires
of-attrs-requires g c =
    subst (λ (tests : List TTest). length (grouping c.args.how tests) ≤ 4) (sym c.as_slice.ensures) (four_group c.args.how c.args.agg.now.tests c.requires.few)

pub returns-clause-part : goal.returns-clause-part
returns-clause-part g c =
    let rows = c.args.world.now.world.rows in
    let attrs = c.as_slice-2.ensures ∙ c.of-attrs.ensures ∙ ap (λ (tests : List TTest). map attr_of (grouping c.args.how tests)) c.as_slice.ensures in
    subst (λ (by : List Attr). IfOk c.part_for.result (λ number. IsPart c.part_for.new.self number by (axes_of c.args.agg.now) rows)) attrs
    (subst (λ (axes : Axes). IfOk c.part_for.result (λ number. IsPart c.part_for.new.self number c.as_slice-2.result.now axes rows)) c.axes_of.ensures c.part_for.ensures.part)
