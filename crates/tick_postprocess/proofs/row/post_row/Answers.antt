use Rattle.std.proofs.Common.{◌≡◌, ◌-◌, not, take, ap, sym, ◌∙◌}
use Rattle.sgl_values.specs.ItemOrder.{fault_cmp}
use Rattle.sgl_values.specs.Least.{least_of, lesser_of}
use Rattle.sgl_values.specs.World.{row_at}
use Rattle.sgl_values.specs.declared.fault.Val.{Val}
use Rattle.sgl_typed.specs.Tick.{assigned, cells_from, fault_of, faults_of, is_met, post_context, posted, removal_value, spawn_faults, spawn_rules, spawn_value, with_values}
use Rattle.sgl_typed.specs.Value.{Context}
use Rattle.tick_postprocess.specs.Blocks.{values_in}
use Rattle.tick_postprocess.proofs.BlockRows.{after, before, holds_row}
use Rattle.tick_postprocess.proofs.RowSteps.{later_told, tells_later}
use Rattle.tick_postprocess.proofs.row.post_row.Goals as goal

pub returns-clause-told : goal.returns-clause-told
returns-clause-told c items words none =
    let e = c.args.ending.now in
    let b = c.args.block.now in
    let script = e.tick.script.now in
    let world = e.tick.world.now.world in
    let held = holds_row e b items c.args.row c.requires.block c.requires.row words none c.in_default.is in
    let old : Context = before e items c.args.row in
    let new : Context = after e items c.args.row in
    let cells = (λ i. take (c.len.ensures i) (c.cells_of-cells.ensures i)) ∙ held.cells in
    let unit : post_context script world e.tick.seed (take c.len.result c.cells_of-cells.result) record { key = c.key.result; values = c.put_values.new.row } ≡ new =
    λ i. post_context script world e.tick.seed (cells i) record { key = c.key.ensures i; values = (c.put_values.ensures ∙ held.values) i } in
    let fault = c.spawn_child-spawning.ensures.fault
    ∙ ap (λ (x : Context). least_of fault_cmp (spawn_faults (spawn_value script.spawn x) (faults_of (assigned x (spawn_rules script.spawn))))) unit in
    let spawns = c.spawn_child-spawning.ensures.spawns ∙ ap (λ (x : Context). is_met (spawn_value script.spawn x)) unit in
    let removal = c.removal_of-removal.ensures ∙ ap (removal_value script.removal) unit in
    tells_later (posted script world e.tick.seed record { row = row_at world c.args.row; cells = cells_from items c.args.row 0 script.schema.effects })
    (lesser_of fault_cmp c.spawn_child-spawning.result.fault (least_of fault_cmp (fault_of c.removal_of-removal.result)))
    (not (is_met c.removal_of-removal.result)) c.spawn_child-spawning.result.spawns (values_in e b.changed (c.args.row - b.first)) c.spawn_child-spawning.new.child c.fate_of.result
    c.fate_of.ensures
    (later_told (faults_of (assigned old script.rules)) (spawn_faults (spawn_value script.spawn new) (faults_of (assigned new (spawn_rules script.spawn)))) (fault_of (removal_value script.removal new)) held.clear
    ∙ sym (λ i. lesser_of fault_cmp (fault i) (least_of fault_cmp (fault_of (removal i)))))
    (ap (λ (v : Val). not (is_met v)) removal) spawns held.values
    (λ born. c.spawn_child-spawning.ensures.child (spawns ∙ born)
    ∙ (λ i. with_values (assigned (unit i) (spawn_rules script.spawn)) ((c.copy_from_slice.ensures.after ∙ c.put_values.ensures ∙ held.values) i)))
