use Rattle.std.proofs.Common.{◌≡◌, map, take}
use Rattle.sgl_typed.specs.Aggregate.{value}
use Rattle.sgl_plain.specs.Acting.{acting_context}
use Rattle.sgl_plain.proofs.statements.values_for.Given as goal

abbrev pub invariant-loop-expr : goal.invariant-loop-expr
invariant-loop-expr l = l.values.items ≡ map (value (acting_context l.acting l.slots.items)) (take l.expr-index l.exprs)
