use Rattle.std.proofs.Common.{◌≡◌, ◌≤◌, map, min, take, length}
use Rattle.sgl_typed.specs.Value.{value_with}
use Rattle.sgl_evaluate.proofs.evaluator.+evaluation.Given as goal

abbrev pub invariant-evaluate_args-loop-i : goal.invariant-evaluate_args-loop-i
invariant-evaluate_args-loop-i g l = record {
  size : length l.buffer ≡ 16;
  few : l.i ≤ min (length l.exprs) 16;
  values : take l.i l.buffer ≡ map (value_with (g.C.AggregateCalls.gives l.calls) (g.X.ExprContext.context l.context)) (take l.i l.exprs);
}
