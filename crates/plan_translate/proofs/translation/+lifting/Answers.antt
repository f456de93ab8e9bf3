use Rattle.std.proofs.Common.{◌∙◌}
use Rattle.plan_translate.proofs.Emitting.{lifts_more, lifted_binary, emits_binary, lifted_agg, emits_agg, next_binary}
use Rattle.plan_translate.proofs.translation.+lifting.Goals as goal

pub lift-returns-in_ok-slot-in-Agg-clause-lifted : goal.lift-returns-in_ok-slot-in-Agg-clause-lifted
lift-returns-in_ok-slot-in-Agg-clause-lifted t c =
    lifted_agg c.args.out.now c.lift_all.new.out c.args.expr.now c.in-Agg.call c.as_slice.result.now c.in_ok-slot-in-Agg.slot c.in-Agg.is c.as_slice.ensures
    c.in_ok-args-in-Agg.ensures.calls c.in_ok-slot-in-Agg.ensures.slot

pub lift-returns-in_ok-slot-in-Agg-clause-calls : goal.lift-returns-in_ok-slot-in-Agg-clause-calls
lift-returns-in_ok-slot-in-Agg-clause-calls t c =
    emits_agg c.args.out.now c.lift_all.new.out c.emit_call.new.out c.args.expr.now c.in-Agg.call c.as_slice.result.now c.in_ok-args-in-Agg.args c.in-Agg.is c.as_slice.ensures
    c.in_ok-args-in-Agg.ensures.calls c.in_ok-args-in-Agg.ensures.lifted c.in_ok-slot-in-Agg.ensures.calls

pub lift-returns-in_ok-made-in-Binary-clause-lifted : goal.lift-returns-in_ok-made-in-Binary-clause-lifted
lift-returns-in_ok-made-in-Binary-clause-lifted t c =
    c.in_ok-made-in-Binary.ensures
    ∙ lifted_binary c.args.out.now c.lift-in-Binary.new.out c.args.expr.now c.in-Binary.left c.in-Binary.right c.get-in-Binary.result.now c.get-in-Binary-2.result.now
    c.in_ok-left-in-Binary.left c.in_ok-right-in-Binary.right c.in-Binary.op c.in-Binary.place
    c.in-Binary.is c.get-in-Binary.ensures c.get-in-Binary-2.ensures c.in_ok-left-in-Binary.ensures.calls c.in_ok-left-in-Binary.ensures.lifted c.in_ok-right-in-Binary.ensures.lifted

pub lift-returns-in_ok-made-in-Binary-clause-calls : goal.lift-returns-in_ok-made-in-Binary-clause-calls
lift-returns-in_ok-made-in-Binary-clause-calls t c =
    emits_binary c.args.out.now c.lift-in-Binary.new.out c.lift-in-Binary-2.new.out c.args.expr.now c.in-Binary.left c.in-Binary.right c.get-in-Binary.result.now c.get-in-Binary-2.result.now
    c.in-Binary.op c.in-Binary.place c.in-Binary.is c.get-in-Binary.ensures c.get-in-Binary-2.ensures c.in_ok-left-in-Binary.ensures.calls c.in_ok-right-in-Binary.ensures.calls

pub lift_all-loop-expr-preserved : goal.lift_all-loop-expr-preserved
lift_all-loop-expr-preserved t c =
    lifts_more c.args.out.now c.loop-expr.out c.lift.new.out c.args.exprs.now c.loop-expr.lifted c.push.new.self c.loop-expr.expr-index c.expr-item.result c.in_ok-lift.field-0
    c.loop-expr-test.true c.expr-item.is c.loop-expr.invariant
    c.in_ok-lift.ensures.next c.in_ok-lift.ensures.lifted c.in_ok-lift.ensures.calls c.in_ok-push.ensures.ok

pub lift-returns-in_ok-made-in-Binary-clause-next : goal.lift-returns-in_ok-made-in-Binary-clause-next
lift-returns-in_ok-made-in-Binary-clause-next t c =
    next_binary c.args.expr.now c.in-Binary.left c.in-Binary.right c.get-in-Binary.result.now c.get-in-Binary-2.result.now c.in-Binary.op c.in-Binary.place
    c.args.out.now.next c.lift-in-Binary.new.out.next c.lift-in-Binary-2.new.out.next c.in-Binary.is c.get-in-Binary.ensures c.get-in-Binary-2.ensures
    c.in_ok-left-in-Binary.ensures.next c.in_ok-right-in-Binary.ensures.next
