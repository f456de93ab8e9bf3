use Rattle.plan_rewrite.proofs.Falling.{Descending}
use Rattle.plan_rewrite.proofs.descent.descent_into.Given as goal

abbrev pub invariant-loop-i : goal.invariant-loop-i
invariant-loop-i l = Descending l.nodes l.start l.i l.slot l.descents
