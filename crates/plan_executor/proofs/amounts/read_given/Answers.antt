use Rattle.std.proofs.Common.{refl, subst}
use Rattle.sgl_typed.specs.Aggregate.{simple_value}
use Rattle.sgl_lanes.specs.Lanes.{lane_of, Holds}
use Rattle.sgl_lanes.specs.declared.kind.Lanes.{Lanes}
use Rattle.task_scratch.specs.Scratch.{slots_in}
use Rattle.plan_executor.specs.Clauses.{values_of, with_target}
use Rattle.plan_executor.specs.Frames.{with_slots}
use Rattle.plan_executor.specs.Running.{base_of}
use Rattle.plan_executor.proofs.Clauses.{arg_given}
use Rattle.plan_executor.proofs.amounts.read_given.Goals as goal

pub returns-in-Some : goal.returns-in-Some
returns-in-Some c = λ yes k target own.
    let base = base_of c.args.run.now in
    let slots = slots_in c.args.rows.now in
    let args = c.args.args.now in
    arg_given (with_slots base slots k) (with_target c.args.run.now.tick.world.now.world (with_slots base (values_of base slots args) k) target) target k args c.args.write.now c.in-Some.arg.now c.read_values.new.values c.in-Some.ensures refl
    (subst (λ (kind : Lanes). Holds kind (lane_of c.read_values.new.values.numbers k) (simple_value (with_slots base slots k) c.in-Some.arg.now)) (c.are_numbers.ensures yes) (c.read_values.ensures k (c.requires.inside.below k own) own))
