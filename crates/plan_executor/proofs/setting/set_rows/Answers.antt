use Rattle.task_scratch.specs.Scratch.{slots_in}
use Rattle.plan_executor.specs.Running.{base_of}
use Rattle.plan_executor.proofs.EmptySets.{no_set}
use Rattle.plan_executor.proofs.Rows.{set_by_lanes}
use Rattle.plan_executor.proofs.setting.set_rows.Goals as goal

pub returns-then-mask-eq0-clause-set : goal.returns-then-mask-eq0-clause-set
returns-then-mask-eq0-clause-set c = λ source child is. no_set c.args.mask c.if-mask-eq0.true (base_of c.args.run.now) c.args.slot source (slots_in c.args.rows.now)

pub returns-then-are_known-clause-set : goal.returns-then-are_known-clause-set
returns-then-are_known-clause-set c = λ source child is.
    let values = c.read_node_values.new.values in
    set_by_lanes (base_of c.args.run.now) c.args.slot source c.args.mask c.args.run.now values.kind values.numbers c.args.rows.now c.set_lanes.new.self c.requires.inside
    (c.are_known.ensures.0 c.if-are_known.true) (c.read_node_values.ensures c.args.slot source child is) c.set_lanes.ensures.set
