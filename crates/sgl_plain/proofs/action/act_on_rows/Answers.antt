use Rattle.std.proofs.Common.{◌<◌, length, map, sym, ◌∙◌, arith}
use Rattle.sgl_evaluate.specs.Frame.{context_of}
use Rattle.sgl_evaluate.specs.Rights.{right_of}
use Rattle.sgl_plain.proofs.Adding.{Leads-over}
use Rattle.sgl_plain.proofs.StatementSteps.{rows_more}
use Rattle.sgl_plain.proofs.action.act_on_rows.Goals as goal

pub returns-then-is_over : goal.returns-then-is_over
returns-then-is_over c = Leads-over (sym c.is_over.ensures ∙ c.if-is_over.true) c.loop-row.invariant

pub loop-row-preserved : goal.loop-row-preserved
loop-row-preserved c =
    let lt : c.loop-row.row < length c.args.frame.now.tick.world.now.world.rows = omega (arith, c.loop-row-test.true, c.len-row-end.ensures.value) in
    rows_more (context_of c.args.frame.now) c.args.clause.now (map (right_of (context_of c.args.frame.now)) c.args.clause.now.tests) c.args.frame.now.tick.world.now.world c.loop-row.row lt
    c.loop-row.invariant c.in_ok-act_on_row.ensures
