use Rattle.std.proofs.Common.{reverse}
use Rattle.plan_rewrite.proofs.Glancing.{AllGlanced}
use Rattle.plan_rewrite.proofs.glance.glance_into.Given as goal

abbrev pub invariant-loop-i : goal.invariant-loop-i
invariant-loop-i l = AllGlanced (reverse l.nodes) l.i l.slot l.sure
