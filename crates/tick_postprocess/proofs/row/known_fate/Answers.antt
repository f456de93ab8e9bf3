use Rattle.std.proofs.Common.{◌≡◌, ◌-◌, false, not, ap, sym, ◌∙◌}
use Rattle.sgl_values.specs.ItemOrder.{fault_cmp}
use Rattle.sgl_values.specs.Least.{least_of, lesser_of}
use Rattle.sgl_values.specs.World.{row_at}
use Rattle.sgl_values.specs.declared.fault.Val.{Val}
use Rattle.sgl_values.specs.declared.fault.Val.TheVariants.{B}
use Rattle.sgl_typed.specs.Tick.{assigned, fault_of, faults_of, is_met, post_context, removal_value, spawn_faults, spawn_rules, spawn_value}
use Rattle.sgl_typed.specs.Value.{Context}
use Rattle.tick_postprocess.specs.Blocks.{context_after}
use Rattle.tick_postprocess.proofs.BlockRows.{after, before, holds_row}
use Rattle.tick_postprocess.proofs.RowSteps.{later_told, no_fault, no_removal, no_spawn}
use Rattle.tick_postprocess.proofs.row.known_fate.Goals as goal

pub returns : goal.returns
returns c items words none =
    let e = c.args.ending.now in
    let b = c.args.block.now in
    let script = e.tick.script.now in
    let world = e.tick.world.now.world in
    let lane = c.args.row - b.first in
    let held = holds_row e b items c.args.row c.requires.block c.requires.row words none (no_fault _ (sym c.is_some.ensures ∙ c.if-is_some.false)) in
    let old : Context = before e items c.args.row in
    let new : Context = after e items c.args.row in
    let then : Context = context_after e b.first b.cells b.changed lane in
    let unit : then ≡ new = λ i. post_context script world e.tick.seed (held.cells i) record { key = (row_at world (held.at i)).key; values = held.values i } in
    let spawning : spawn_value script.spawn new ≡ B false =
    ap (spawn_value script.spawn) (sym unit) ∙ c.is_known_false.ensures (spawn_value script.spawn then) (λ absent. no_spawn script.spawn then (sym c.is_some-2.ensures ∙ absent)) (c.requires.block.spawning lane held.inside) c.if-not-is_known_false.false in
    let removal : removal_value script.removal new ≡ B c.in_ok-removed.removed =
    ap (removal_value script.removal) (sym unit) ∙ c.in_ok-removed.ensures (removal_value script.removal then) (λ absent. no_removal script.removal then (sym c.is_some-3.ensures ∙ absent)) (c.requires.block.removal lane held.inside) in (
      later_told (faults_of (assigned old script.rules)) (spawn_faults (spawn_value script.spawn new) (faults_of (assigned new (spawn_rules script.spawn)))) (fault_of (removal_value script.removal new)) held.clear
          ∙ (λ i. lesser_of fault_cmp (least_of fault_cmp (spawn_faults (spawning i) (faults_of (assigned new (spawn_rules script.spawn))))) (least_of fault_cmp (fault_of (removal i)))),
      sym (ap (λ (v : Val). not (is_met v)) removal),
      sym (ap is_met spawning),
      held.values,
    )
