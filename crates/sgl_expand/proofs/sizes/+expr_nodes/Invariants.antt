use Rattle.std.proofs.Common.{◌≡◌, ◌+◌, ◌≤◌, drop}
use Rattle.sgl_typed.specs.Sizes.{nodes_of_all}
use Rattle.sgl_expand.specs.Sizes.{capped}
use Rattle.sgl_expand.proofs.sizes.+expr_nodes.Given as goal

abbrev pub invariant-count_exprs-loop-expr : goal.invariant-count_exprs-loop-expr
invariant-count_exprs-loop-expr l =
    (l.size ≤ 18446744073709551615) × (capped (l.size + nodes_of_all (drop l.expr-index l.exprs)) ≡ capped (nodes_of_all l.exprs))
