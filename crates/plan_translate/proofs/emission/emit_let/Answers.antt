use Rattle.plan_translate.specs.Calls.{lifted, lifted_calls}
use Rattle.plan_translate.proofs.Writing.{heads_let}
use Rattle.plan_translate.proofs.emission.emit_let.Goals as goal

pub returns-clause-heads : goal.returns-clause-heads
returns-clause-heads c =
    heads_let c.args.out.now c.lift.new.out (record { nodes = c.push.new.self; next = c.lift.new.out.next }) (lifted_calls c.args.value.now c.args.out.now.next)
    c.args.slot c.in_ok-value.value (lifted c.args.value.now c.args.out.now.next) c.args.place c.in_ok-then.then
    c.in_ok-value.ensures.calls c.in_ok-value.ensures.lifted c.in_ok-then.ensures c.in_ok-push.ensures
