use Rattle.std.proofs.Common.{◌≡◌, List, subst, ◌∙◌}
use Rattle.sgl_values.specs.declared.fault.Val.{Val}
use Rattle.battle_algebra.specs.Meaning.{source_value}
use Rattle.task_scratch.specs.Scratch.{slots_in, IsRowSet}
use Rattle.plan_executor.specs.Frames.{with_slots}
use Rattle.plan_executor.specs.Running.{base_of}
use Rattle.plan_executor.proofs.Answering.{sourced}
use Rattle.plan_executor.proofs.setting.set_row.Goals as goal
use Rattle.plan_executor.proofs.setting.set_row.Goals.{in-Some, in-None}

pub returns-clause-set : goal.returns-clause-set
returns-clause-set c = λ source child is.
    let run = c.args.run.now in
    let slots = slots_in c.args.rows.now c.args.row in
    let f = with_slots (base_of run) (slots_in c.args.rows.now) c.args.row in
    let value : c.match-count.value ≡ source_value f source = elim c.match-count.branch [
      | in-Some w ↦
          let calls = (c.requires.written w.in-Some.count w.in-Some.is).written in
          w.value-is ∙ sourced run.nodes.now c.args.node calls.slot calls.call calls.way calls.child f w.answer_of-value.result calls.calls (w.answer_of-value.ensures slots) c.args.slot source child is
      | in-None w ↦
          w.value-is ∙ subst (λ (s : List Val). w.value_at-value.result ≡ source_value (record (base_of run c.args.row) { slots = s }) source) w.put_row.ensures
          (w.value_at-value.ensures c.args.slot source child is)
    ] in
    subst (λ (v : Val). IsRowSet c.args.row c.args.slot v c.args.rows.now c.set.new.self) value c.set.ensures.set
