use Rattle.std.proofs.Common.{◌≡◌, ◌≤◌, length, arith, subst}
use Rattle.task_scratch.specs.Scratch.{slots_in}
use Rattle.plan_executor.specs.Clauses.{ReadFirst}
use Rattle.plan_executor.specs.Running.{base_of}
use Rattle.plan_executor.proofs.Clauses.{args_read}
use Rattle.plan_executor.proofs.amounts.read_args.Goals as goal

pub returns-clause-args : goal.returns-clause-args
returns-clause-args c = λ is.
    let l = c.loop-number in
    let args = c.args.args.now in
    let last : l.number ≡ length args = omega (arith, c.loop-number-test.false, l.auto.number-end) in
    let room : length args ≤ length l.lanes.items = omega (arith, l.invariant.long, c.requires.room) in
    args_read (base_of c.args.run.now) (slots_in c.args.rows.now) args c.args.mask l.lanes.items room
    (subst (λ n. ReadFirst (base_of c.args.run.now) (slots_in c.args.rows.now) args c.args.mask n l.lanes.items) last l.invariant.read)
