use Rattle.std.proofs.Common.{ap, sym, ◌∙◌, true, false}
use Rattle.sgl_values.specs.declared.fault.Val.TheVariants.{N, B}
use Rattle.sgl_typed.specs.Items.{items}
use Rattle.sgl_plain.specs.Acting.{acting_context}
use Rattle.sgl_plain.proofs.Adding.{Leads-over}
use Rattle.sgl_plain.proofs.Logs.{logged_then}
use Rattle.sgl_plain.proofs.StatementSteps.{adds_if, statements_more}
use Rattle.sgl_plain.proofs.statements.+statements.Goals as goal

pub block-returns-then-is_over-clause-items : goal.block-returns-then-is_over-clause-items
block-returns-then-is_over-clause-items t c = Leads-over (sym c.is_over.ensures ∙ c.if-is_over.true) c.loop-statement.invariant.adds

pub block-loop-statement-preserved : goal.block-loop-statement-preserved
block-loop-statement-preserved t c = record {
  adds = statements_more (acting_context c.args.acting.now c.loop-statement.slots.values.items) (acting_context c.args.acting.now c.perform.new.slots.values.items) c.args.statements.now c.loop-statement.statement-index c.statement-item.result
      c.loop-statement-test.true c.statement-item.is c.loop-statement.invariant.adds c.in_ok-perform.ensures.items c.in_ok-perform.ensures.after;
  behind = logged_then c.loop-statement.invariant.behind c.in_ok-perform.ensures.logged;
}

pub perform-returns-in-B-true-clause-items : goal.perform-returns-in-B-true-clause-items
perform-returns-in-B-true-clause-items t c =
    let seen = acting_context c.args.acting.now c.args.slots.now.values.items in
    adds_if c.block.result c.args.out.now c.block.new.out seen c.args.statement.now c.in-If.cond c.in-If.place c.in-If.yes c.in-If.no c.as_slice.result.now (B true)
    c.in-If.is (ap B (sym c.in-B-true.field-0-test) ∙ sym c.in-B-true.is ∙ c.value_for.ensures) (ap (λ block. items block seen) c.as_slice.ensures) c.block.ensures.items

pub perform-returns-in-B-false-clause-items : goal.perform-returns-in-B-false-clause-items
perform-returns-in-B-false-clause-items t c =
    let seen = acting_context c.args.acting.now c.args.slots.now.values.items in
    adds_if c.block-in-B-false.result c.args.out.now c.block-in-B-false.new.out seen c.args.statement.now c.in-If.cond c.in-If.place c.in-If.yes c.in-If.no c.as_slice-in-B-false.result.now (B false)
    c.in-If.is (ap B (sym c.in-B-false.field-0-test) ∙ sym c.in-B-false.is ∙ c.value_for.ensures) (ap (λ block. items block seen) c.as_slice-in-B-false.ensures) c.block-in-B-false.ensures.items

pub perform-returns-in-N-clause-items : goal.perform-returns-in-N-clause-items
perform-returns-in-N-clause-items t c =
    let seen = acting_context c.args.acting.now c.args.slots.now.values.items in
    adds_if c.block-in-N.result c.args.out.now c.block-in-N.new.out seen c.args.statement.now c.in-If.cond c.in-If.place c.in-If.yes c.in-If.no c.as_slice-in-N.result.now (N c.in-N.field-0)
    c.in-If.is (sym c.in-N.is ∙ c.value_for.ensures) (ap (λ block. items block seen) c.as_slice-in-N.ensures) c.block-in-N.ensures.items
