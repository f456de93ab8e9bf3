use Rattle.plan_translate.specs.Lists.{LiftsAll}
use Rattle.plan_translate.proofs.translation.+lifting.Given as goal

abbrev pub invariant-lift_all-loop-expr : goal.invariant-lift_all-loop-expr
invariant-lift_all-loop-expr l = LiftsAll l.initial.out l.out l.exprs l.expr-index l.lifted
