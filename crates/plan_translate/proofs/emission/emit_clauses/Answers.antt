use Rattle.std.proofs.Common.{arith, ◌∙◌, ◌-◌, ◌++◌, length}
use Rattle.plan_translate.specs.Translation.{clauses}
use Rattle.battle_algebra.specs.Tree.{numbered}
use Rattle.plan_translate.proofs.Writing.{clauses_more, clauses_last, two_more}
use Rattle.plan_translate.proofs.emission.emit_clauses.Goals as goal

pub loop-clause-preserved : goal.loop-clause-preserved
loop-clause-preserved c = record {
  next = c.in_ok-emit_clause_and_more.ensures.next ∙ c.loop-clause.invariant.next;
  count = omega (arith, c.loop-clause.invariant.count, two_more _ _ _ _ c.in_ok-emit_clause_and_more.ensures.nodes);
  rest =
      clauses_more c.loop-clause.out.nodes c.emit_clause_and_more.new.out.nodes
      (c.args.out.now.nodes ++ numbered (clauses c.args.ons.now 0 c.args.call.now.action c.args.call.now.args c.args.call.now.place) (length c.args.out.now.nodes))
      c.args.ons.now c.loop-clause.clause c.args.call.now.action c.args.call.now.args c.args.call.now.place
      (omega (arith, c.loop-clause-test.true)) c.loop-clause.invariant.rest c.in_ok-emit_clause_and_more.ensures.nodes;
}

pub returns : goal.returns
returns c = record {
  next = c.in_ok-emit_clause.ensures.next ∙ c.loop-clause.invariant.next;
  nodes =
      clauses_last c.loop-clause.out.nodes c.emit_clause.new.out.nodes
      (c.args.out.now.nodes ++ numbered (clauses c.args.ons.now 0 c.args.call.now.action c.args.call.now.args c.args.call.now.place) (length c.args.out.now.nodes))
      c.args.ons.now c.loop-clause.clause (length c.args.ons.now - 1) c.args.call.now.action c.args.call.now.args c.args.call.now.place
      (omega (arith, c.loop-clause-test.false, c.loop-clause.auto.clause-end, c.requires.some))
      (omega (arith, c.loop-clause-test.false, c.loop-clause.auto.clause-end, c.requires.some)) c.loop-clause.invariant.rest
      c.in_ok-emit_clause.ensures.nodes;
}
