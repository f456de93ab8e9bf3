use Rattle.std.proofs.Common.{◌≤◌, ◌∙◌, List, ap, length, map, refl, sym, subst}
use Rattle.sgl_typed.specs.declared.script.Attr.{Attr}
use Rattle.sgl_typed.specs.declared.script.TExpr.{TExpr}
use Rattle.sgl_typed.specs.declared.script.TTest.{TTest}
use Rattle.battle_algebra.specs.Ways.{attr_of}
use Rattle.row_groups.specs.Groups.{Grouping, IsGroups}
use Rattle.test_boxes.specs.Readings.{grouping}
use Rattle.test_boxes.specs.declared.reading.Reading.TheVariants.{Away}
use Rattle.test_boxes.proofs.Shapes.{four_group}
use Rattle.group_sweeps.specs.Prepared.{IsPrepared}
use Rattle.index_set.proofs.Shelving.{taken}
use Rattle.index_set.proofs.prepared.prepare_call.Goals as goal

pub of-attrs-requires : goal.of-attrs-requires
of-attrs-requires g c =
    subst (λ (tests : List TTest). length (grouping Away tests) ≤ 4) (sym c.as_slice.ensures) (four_group Away c.args.found.agg.now.tests c.requires.sweep.few)

pub prepare_sweep-requires-clause-groups : goal.prepare_sweep-requires-clause-groups
prepare_sweep-requires-clause-groups g c lifetimes outlive =
    let shelf = c.args.shelf.now in
    let has = c.in-Some.ensures in
    let rows = c.args.of.now.world.now.world.rows in
    let by = c.as_slice-2.ensures ∙ c.of-attrs.ensures ∙ ap (λ (tests : List TTest). map attr_of (grouping Away tests)) c.as_slice.ensures in
    let same = taken c.as_slice-in-Some-2.result.now shelf.partitions c.in-Some.groups has.groups c.index-as_slice-groups.result c.index-as_slice-groups.is c.as_slice-in-Some-2.ensures has.at in
    subst (λ (x : Grouping). IsGroups x (map attr_of (grouping Away c.args.found.agg.now.tests)) rows) (sym same)
    (subst (λ (attrs : List Attr). IsGroups has.groups attrs rows) (has.by ∙ by) (c.requires.shelf.groups c.in-Some.groups has.groups has.at))

pub returns-in_ok-sweep-in-Some : goal.returns-in_ok-sweep-in-Some
returns-in_ok-sweep-in-Some g c =
    let of = c.args.of.now in
    let call = c.args.found.call.now in
    let agg = c.args.found.agg.now in
    let shelf = c.args.shelf.now in
    let has = c.in-Some.ensures in
    let sweep = c.in_ok-sweep-in-Some.sweep in
    let same = taken c.as_slice-in-Some-2.result.now shelf.partitions c.in-Some.groups has.groups c.index-as_slice-groups.result c.index-as_slice-groups.is c.as_slice-in-Some-2.ensures has.at in
    record {
      node = refl;
      ready = record {
        groups = has.groups;
        at = has.at;
        by = has.by ∙ c.as_slice-2.ensures ∙ c.of-attrs.ensures ∙ ap (λ (tests : List TTest). map attr_of (grouping Away tests)) c.as_slice.ensures;
        ready = subst (λ (x : Grouping). IsPrepared sweep agg of.script.now of.world.now.world of.seed call.args x) same
            (subst (λ (args : List TExpr). IsPrepared sweep agg of.script.now of.world.now.world of.seed args c.index-as_slice-groups.result) c.as_slice-in-Some.ensures c.in_ok-sweep-in-Some.ensures);
      };
    }
