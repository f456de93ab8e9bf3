use Rattle.std.proofs.Common.{arith, refl, take}
use Rattle.sgl_typed.specs.Value.{value_with}
use Rattle.sgl_evaluate.proofs.Steps.{binary, called, decided, filled}
use Rattle.sgl_evaluate.proofs.evaluator.+evaluation.Goals as goal

pub evaluate-returns-then-decides : goal.evaluate-returns-then-decides
evaluate-returns-then-decides g t c =
    decided (g.C.AggregateCalls.gives c.args.calls.now) (g.X.ExprContext.context c.args.context.now) _ _ _ _ _ _ _ c.in-Binary.is c.get-in-Binary.ensures c.evaluate-left.ensures (c.decides.ensures c.if-decides.true)

pub evaluate-returns-else-decides : goal.evaluate-returns-else-decides
evaluate-returns-else-decides g t c =
    binary (g.C.AggregateCalls.gives c.args.calls.now) (g.X.ExprContext.context c.args.context.now) c.in-Binary.is c.get-in-Binary.ensures c.get-in-Binary-2.ensures c.evaluate-left.ensures c.evaluate-right.ensures c.operate.ensures

pub evaluate_call-returns : goal.evaluate_call-returns
evaluate_call-returns g t c =
    called (g.C.AggregateCalls.gives c.args.calls.now) (value_with (g.C.AggregateCalls.gives c.args.calls.now) (g.X.ExprContext.context c.args.context.now)) c.args.call.now.agg c.min-count.result
    c.args.call.now.args c.as_slice-exprs.result.now c.evaluate_args.new.buffer (take c.min-count.result c.evaluate_args.new.buffer) c.call.result
    c.as_slice-exprs.ensures c.min-count.ensures refl c.evaluate_args.ensures.values c.call.ensures.value c.call.ensures.sixteen

pub evaluate_args-returns-clause-values : goal.evaluate_args-returns-clause-values
evaluate_args-returns-clause-values g t c =
    filled (value_with (g.C.AggregateCalls.gives c.args.calls.now) (g.X.ExprContext.context c.args.context.now)) c.args.exprs.now c.loop-i.buffer c.loop-i.i (omega arith) c.loop-i.invariant.values
