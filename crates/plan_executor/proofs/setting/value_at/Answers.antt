use Rattle.plan_executor.specs.Running.{base_of}
use Rattle.plan_executor.proofs.Answering.{answered, built, sourced}
use Rattle.plan_executor.proofs.Insides.{node_is}
use Rattle.plan_executor.proofs.setting.value_at.Goals as goal

pub answer_by-requires-clause-built : goal.answer_by-requires-clause-built
answer_by-requires-clause-built c = built c.args.run.now c.of.result c.requires.can c.of.ensures

pub returns-in-Agg : goal.returns-in-Agg
returns-in-Agg c =
    let run = c.args.run.now in
    let one = c.in-Agg in
    sourced run.nodes.now c.args.node one.slot one.call one.way one.then (record (base_of run c.args.row) { slots = c.args.slots.now }) c.answer_by.result
    (node_is run.nodes.now c.args.node _ _ c.requires.node one.is)
    (answered run c.of.result c.requires.can c.of.ensures c.args.node c.args.row c.unit_row-unit.result c.args.slots.now c.answer_by.result c.unit_row-unit.ensures c.answer_by.ensures)
