use Rattle.plan_translate.proofs.Written.{translated_is_plan, written_nodes, gives_items, plan_is_of}
use Rattle.std.proofs.Common.{◌∙◌, ◌+◌, ap}
use Rattle.plan_translate.specs.Translation.{calls_of_all}
use Rattle.plan_translate.proofs.translating.translate.Goals as goal

pub invariant_of-result : goal.invariant_of-result
invariant_of-result c = record {
  shaped =
      translated_is_plan c.args.script.now c.into_list.result c.emit_block.new.out.next
      (c.into_list.ensures ∙ written_nodes c.args.script.now c.new.result c.emit_block.new.out.nodes c.as_slice.result.now c.as_slice-2.result.now c.new.ensures c.as_slice.ensures c.as_slice-2.ensures c.in_ok-emit_block.ensures.nodes)
      (c.in_ok-emit_block.ensures.next ∙ ap (λ b. c.args.script.now.slots + calls_of_all b) c.as_slice-2.ensures);
}

pub returns-clause-items : goal.returns-clause-items
returns-clause-items c =
    gives_items c.args.script.now c.into_list.result c.emit_block.new.out.next
    (c.into_list.ensures ∙ written_nodes c.args.script.now c.new.result c.emit_block.new.out.nodes c.as_slice.result.now c.as_slice-2.result.now c.new.ensures c.as_slice.ensures c.as_slice-2.ensures c.in_ok-emit_block.ensures.nodes)
    (c.in_ok-emit_block.ensures.next ∙ ap (λ b. c.args.script.now.slots + calls_of_all b) c.as_slice-2.ensures)

pub returns-clause-of : goal.returns-clause-of
returns-clause-of c =
    plan_is_of c.args.script.now c.into_list.result
    (c.into_list.ensures ∙ written_nodes c.args.script.now c.new.result c.emit_block.new.out.nodes c.as_slice.result.now c.as_slice-2.result.now c.new.ensures c.as_slice.ensures c.as_slice-2.ensures c.in_ok-emit_block.ensures.nodes)
