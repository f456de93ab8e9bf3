use Rattle.plan_translate.proofs.Writing.{act_written}
use Rattle.plan_translate.proofs.emission.emit_act.Goals as goal

pub returns-clause-nodes : goal.returns-clause-nodes
returns-clause-nodes c =
    act_written c.args.actions.now c.args.action c.args.place c.args.args.now c.args.out.now c.lift_all.new.out c.emit_action.new.out.nodes c.in_ok-args.args
    c.in_ok-args.ensures.calls c.in_ok-args.ensures.lifted c.in_ok-emit_action.ensures.nodes
