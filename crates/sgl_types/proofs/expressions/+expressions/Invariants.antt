use Rattle.std.proofs.Common.{◌≡◌, map, take, drop}
use Rattle.sgl_types.specs.Findings.{noted}
use Rattle.sgl_types.specs.Scope.{scope_at}
use Rattle.sgl_types.specs.Faults.{numbers_faults}
use Rattle.sgl_types.specs.Typed.{typed}
use Rattle.sgl_types.proofs.expressions.+expressions.Given as goal

abbrev pub invariant-check_numbers-loop-expr : goal.invariant-check_numbers-loop-expr
invariant-check_numbers-loop-expr l =
    (l.made ≡ map (typed (scope_at l.at)) (take l.expr-index l.exprs))
    × (noted l.found (numbers_faults (scope_at l.at) (drop l.expr-index l.exprs)) ≡ noted l.initial.found (numbers_faults (scope_at l.at) l.exprs))
