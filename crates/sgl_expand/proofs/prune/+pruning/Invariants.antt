use Rattle.std.proofs.Common.{◌≡◌, ◌++◌, drop}
use Rattle.sgl_expand.specs.Pruned.{pruned_all}
use Rattle.sgl_expand.proofs.prune.+pruning.Given as goal

abbrev pub invariant-prune_statements-loop-statement : goal.invariant-prune_statements-loop-statement
invariant-prune_statements-loop-statement l = l.short ++ pruned_all l.done (drop l.statement-index l.statements) ≡ pruned_all l.done l.statements
