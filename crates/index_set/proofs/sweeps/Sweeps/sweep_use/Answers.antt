use Rattle.std.proofs.Common.{List, map, refl, sym, subst}
use Rattle.std.proofs.lemmas.Result.{IfOk-at_ok}
use Rattle.sgl_typed.specs.declared.script.Attr.{Attr}
use Rattle.battle_algebra.specs.Ways.{attr_of}
use Rattle.row_groups.specs.Groups.{Grouping, IsGroups}
use Rattle.test_boxes.specs.Readings.{grouping}
use Rattle.test_boxes.specs.declared.reading.Reading.TheVariants.{Away}
use Rattle.group_sweeps.specs.Prepared.{IsPrepared, IsReady}
use Rattle.group_sweeps.specs.Swept.{AreAnswers}
use Rattle.index_set.specs.declared.swept_use.SweptUse.{SweptUse}
use Rattle.index_set.proofs.Shelving.{taken}
use Rattle.index_set.proofs.Sweeping.{swept_for, use_at, use_more, uses_stay}
use Rattle.index_set.proofs.sweeps.Sweeps.sweep_use.Goals as goal

pub answers-requires-clause-groups : goal.answers-requires-clause-groups
answers-requires-clause-groups g c lifetimes outlive =
    let shelf = c.args.from.now.shelf.now in
    let ready = c.requires.ready in
    let same = taken c.as_slice.result.now shelf.partitions c.args.ready.now.groups ready.groups c.index-as_slice-ready.result c.index-as_slice-ready.is c.as_slice.ensures ready.at in
    let rows = c.args.from.now.of.now.world.now.world.rows in
    subst (λ (x : Grouping). IsGroups x (map attr_of (grouping Away c.args.found.agg.now.tests)) rows) (sym same)
    (subst (λ (attrs : List Attr). IsGroups ready.groups attrs rows) ready.by (c.requires.from.shelf.groups c.args.ready.now.groups ready.groups ready.at))

pub answers-requires-clause-ready : goal.answers-requires-clause-ready
answers-requires-clause-ready g c lifetimes outlive =
    let shelf = c.args.from.now.shelf.now in
    let ready = c.requires.ready in
    let same = taken c.as_slice.result.now shelf.partitions c.args.ready.now.groups ready.groups c.index-as_slice-ready.result c.index-as_slice-ready.is c.as_slice.ensures ready.at in
    subst (λ (x : Grouping). IsReady c.args.ready.now.sweep c.args.found.agg.now c.args.from.now.of.now.world.now.world x) (sym same) ready.ready.ready

pub returns : goal.returns
returns g c =
    let of = c.args.from.now.of.now in
    let call = c.args.found.call.now in
    let agg = c.args.found.agg.now in
    let ready = c.requires.ready in
    let same = taken c.as_slice.result.now c.args.from.now.shelf.now.partitions c.args.ready.now.groups ready.groups c.index-as_slice-ready.result c.index-as_slice-ready.is c.as_slice.ensures ready.at in
    let is = subst (λ (x : Grouping). IsPrepared c.args.ready.now.sweep agg of.script.now of.world.now.world of.seed call.args x) (sym same) ready.ready in
    let own = swept_for c.in_ok-swept.swept of.script.now of.world.now.world of.seed call agg c.requires.sweep.at c.requires.sweep.fixed
    (IfOk-at_ok (λ swept. AreAnswers swept agg of.script.now of.world.now.world of.seed call.args) c.in_ok-swept.was (c.answers.ensures of.script.now of.seed call.args is)) in
    let one : SweptUse = record { node = c.args.found.node; swept = c.in_ok-swept.swept } in
    let uses = c.args.self.now.uses in
    let put = c.in_ok-push.ensures.ok in
    record {
      at = use_at uses c.push.new.self one c.len-number.result of.script.now of.world.now.world of.seed call put c.len-number.ensures own;
      uses = use_more uses c.push.new.self one of.script.now of.world.now.world of.seed of.plan.now.nodes call put c.requires.uses c.requires.sweep.call own;
      keeps = record { nodes = refl; uses = uses_stay uses c.push.new.self one put };
    }
