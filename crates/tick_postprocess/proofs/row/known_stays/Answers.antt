use Rattle.std.proofs.Common.{◌≡◌, ◌∙◌, ◌-◌, ◌<◌, false, true, not, ap, sym, arith}
use Rattle.sgl_values.specs.ItemOrder.{fault_cmp}
use Rattle.sgl_values.specs.Least.{least_of, lesser_of}
use Rattle.sgl_values.specs.World.{row_at}
use Rattle.sgl_values.specs.declared.fault.Val.{Val}
use Rattle.sgl_values.specs.declared.fault.Val.TheVariants.{B}
use Rattle.sgl_typed.specs.Tick.{assigned, fault_of, faults_of, is_met, post_context, removal_value, spawn_faults, spawn_rules, spawn_value}
use Rattle.sgl_typed.specs.Value.{Context}
use Rattle.sgl_lanes.specs.Lanes.{has}
use Rattle.sgl_lanes.proofs.LaneSets.{first_has, has_zero}
use Rattle.tick_postprocess.specs.Blocks.{context_after}
use Rattle.tick_postprocess.proofs.BlockRows.{after, before, holds_row}
use Rattle.tick_postprocess.proofs.KnownLanes.{lane_apart, lane_without}
use Rattle.tick_postprocess.proofs.RowSteps.{later_told, no_removal, no_spawn}
use Rattle.tick_postprocess.proofs.row.known_stays.Goals as goal

pub returns : goal.returns
returns c items row words own none =
    let e = c.args.ending.now in
    let b = c.args.block.now in
    let script = e.tick.script.now in
    let world = e.tick.world.now.world in
    let lane = row - b.first in
    let below : lane < 64 = omega (arith, own.from, own.below, c.requires.block.few) in
    let quiet = c.requires.block.quiet c.if-not-block.false lane (omega (arith, own.from, own.below)) in
    let held = holds_row e b items row c.requires.block own words none quiet in
    let old : Context = before e items row in
    let new : Context = after e items row in
    let then : Context = context_after e b.first b.cells b.changed lane in
    let unit : then ≡ new = λ i. post_context script world e.tick.seed (held.cells i) record { key = (row_at world (held.at i)).key; values = held.values i } in
    let all = c.first_lanes-all.result in
    let inside : has all lane ≡ true = first_has all _ lane c.first_lanes-all.ensures (omega (arith, own.from, own.below)) in
    let empty : has c.lanes_in_both.result lane ≡ false = ap (λ set. has set lane) c.if-lanes_in_both-ne0.false ∙ has_zero lane in
    let apart : has c.in_ok-spawning.spawning lane ≡ false = lane_apart all c.in_ok-spawning.spawning lane inside (sym empty ∙ c.lanes_in_both.ensures lane) in
    let spawning : spawn_value script.spawn new ≡ B false =
    ap (spawn_value script.spawn) (sym unit)
    ∙ c.in_ok-spawning.ensures lane (spawn_value script.spawn then) below (λ absent. no_spawn script.spawn then (sym c.is_some.ensures ∙ absent)) (c.requires.block.spawning lane held.inside)
    ∙ ap B apart in
    let removal : removal_value script.removal new ≡ B (has c.in_ok-removed.removed lane) =
    ap (removal_value script.removal) (sym unit)
    ∙ c.in_ok-removed.ensures lane (removal_value script.removal then) below (λ absent. no_removal script.removal then (sym c.is_some-2.ensures ∙ absent)) (c.requires.block.removal lane held.inside) in (
      later_told (faults_of (assigned old script.rules)) (spawn_faults (spawn_value script.spawn new) (faults_of (assigned new (spawn_rules script.spawn)))) (fault_of (removal_value script.removal new)) held.clear
          ∙ (λ i. lesser_of fault_cmp (least_of fault_cmp (spawn_faults (spawning i) (faults_of (assigned new (spawn_rules script.spawn))))) (least_of fault_cmp (fault_of (removal i)))),
      lane_without all c.in_ok-removed.removed c.lanes_without.result lane inside (c.lanes_without.ensures lane) ∙ sym (ap (λ (v : Val). not (is_met v)) removal),
      sym (ap is_met spawning),
      held.values,
    )
