use Rattle.std.proofs.Common.{◌≡◌, take, true}
use Rattle.sgl_typed.specs.Reads.{list_reads_only}
use Rattle.battle_algebra.specs.Reads.{all_but}
use Rattle.plan_rewrite.proofs.subtrees.+avoiding.Given as goal

abbrev pub invariant-exprs_avoid-loop-expr : goal.invariant-exprs_avoid-loop-expr
invariant-exprs_avoid-loop-expr l = list_reads_only (take l.expr-index l.exprs) (all_but l.slot) ≡ true
