use Rattle.std.proofs.Common.{ap, arith, ◌∙◌}
use Rattle.sgl_typed.specs.Aggregate.{simple_value}
use Rattle.sgl_typed.specs.Items.{written}
use Rattle.sgl_typed.specs.declared.script.TWrite.{TWrite}
use Rattle.sgl_values.specs.Amounts.{plain_amount}
use Rattle.plan_executor.proofs.Clauses.{number_given}
use Rattle.plan_executor.proofs.Pushing.{map_more, map_end}
use Rattle.plan_executor.proofs.lane_giving.give_row.Goals as goal

pub loop-number-preserved : goal.loop-number-preserved
loop-number-preserved c = record {
  ready = c.push_amount.ensures.ready;
  leads = λ c' gives. map_more (λ (w : TWrite). written c' c.args.target w (simple_value c' w.amount)) c.args.writes.now c.loop-number.number c.index-writes-number.result c.loop-number-test.true c.index-writes-number.is (c.loop-number.invariant.leads c' gives)
      c.push_amount.ensures.pushes
      (number_given c' c.args.target c.args.row c.args.writes.now c.args.amounts.now c.loop-number.number c.index-writes-number.result c.index-amounts-number.result c.plain-amount.result gives c.loop-number-test.true
      c.index-writes-number.is (c.plain-amount.ensures ∙ ap plain_amount c.number_at.ensures));
}

pub returns-clause-pushes : goal.returns-clause-pushes
returns-clause-pushes c = λ c' gives.
    map_end (λ (w : TWrite). written c' c.args.target w (simple_value c' w.amount)) c.args.writes.now c.loop-number.number (omega (arith, c.loop-number-test.false)) (c.loop-number.invariant.leads c' gives)
