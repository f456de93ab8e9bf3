use Rattle.std.proofs.Common.{◌≡◌, map, take}
use Rattle.sgl_types.specs.Faults.{place_of}
use Rattle.sgl_types.proofs.statements.places_of.Given as goal

abbrev pub invariant-loop-expr : goal.invariant-loop-expr
invariant-loop-expr l = l.places ≡ map place_of (take l.expr-index l.exprs)
