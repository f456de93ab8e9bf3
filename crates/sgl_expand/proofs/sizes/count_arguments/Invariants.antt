use Rattle.std.proofs.Common.{◌≡◌, ◌+◌, ◌≤◌, drop}
use Rattle.sgl_typed.specs.Sizes.{argument_nodes}
use Rattle.sgl_expand.specs.Sizes.{capped}
use Rattle.sgl_expand.proofs.sizes.count_arguments.Given as goal

abbrev pub invariant-loop-expr : goal.invariant-loop-expr
invariant-loop-expr l =
    (l.size ≤ 18446744073709551615) × (capped (l.size + argument_nodes (drop l.expr-index l.args)) ≡ capped (argument_nodes l.args))
