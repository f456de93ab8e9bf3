use Rattle.std.proofs.Common.{◌++◌, length, refl, ap, sym, ◌∙◌}
use Rattle.std.specs.Option.{option_copied}
use Rattle.plan_translate.specs.Translation.{clauses, clauses_in}
use Rattle.battle_algebra.specs.Tree.{numbered}
use Rattle.plan_translate.proofs.Writing.{none_written}
use Rattle.plan_translate.proofs.emission.emit_action.Goals as goal

pub returns-in_ok-push-in-None : goal.returns-in_ok-push-in-None
returns-in_ok-push-in-None c = record {
  next = refl;
  nodes =
      none_written c.args.out.now.nodes c.push.new.self _ c.args.call.now.action c.args.call.now.args c.args.call.now.place
      (ap clauses_in (sym c.action_at.ensures ∙ ap option_copied c.in-None.is)) c.in_ok-push-in-None.ensures;
}

pub returns-in_ok-emit_ons-in-Some : goal.returns-in_ok-emit_ons-in-Some
returns-in_ok-emit_ons-in-Some c = record {
  next = c.in_ok-emit_ons-in-Some.ensures.next;
  nodes =
      c.in_ok-emit_ons-in-Some.ensures.nodes
      ∙ ap (λ ons. c.args.out.now.nodes ++ numbered (clauses ons 0 c.args.call.now.action c.args.call.now.args c.args.call.now.place) (length c.args.out.now.nodes))
      (c.as_slice.ensures ∙ ap clauses_in (sym (sym c.action_at.ensures ∙ ap option_copied c.in-Some.is)));
}
