use Rattle.std.proofs.Common.{refl, ap, sym, ◌∙◌}
use Rattle.std.specs.Prelude.{◌&&◌, slice_get}
use Rattle.battle_algebra.specs.Ways.{fixed_with, arg_fixed}
use Rattle.battle_algebra.proofs.RightSides.{fixed_binary}
use Rattle.battle_algebra.proofs.fixed.+is_fixed_with.Goals as goal

pub returns-then-is_fixed_with : goal.returns-then-is_fixed_with
returns-then-is_fixed_with t c =
    ap (λ b. b && c.is_fixed_with-then-is_fixed_with.result) (sym c.if-is_fixed_with.true)
    ∙ fixed_binary c.args.expr.now c.in-Binary.left c.in-Binary.right c.get-in-Binary.result.now c.get-then-is_fixed_with.result.now c.in-Binary.op c.in-Binary.place (λ i. arg_fixed (slice_get c.args.args.now i))
    c.is_fixed_with-in-Binary.result c.is_fixed_with-then-is_fixed_with.result c.in-Binary.is c.get-in-Binary.ensures c.get-then-is_fixed_with.ensures c.is_fixed_with-in-Binary.ensures c.is_fixed_with-then-is_fixed_with.ensures

pub returns-else-is_fixed_with : goal.returns-else-is_fixed_with
returns-else-is_fixed_with t c =
    c.if-is_fixed_with.false ∙ ap (λ b. b && fixed_with c.in-Binary.right (λ i. arg_fixed (slice_get c.args.args.now i))) (sym c.if-is_fixed_with.false)
    ∙ fixed_binary c.args.expr.now c.in-Binary.left c.in-Binary.right c.get-in-Binary.result.now c.in-Binary.right c.in-Binary.op c.in-Binary.place (λ i. arg_fixed (slice_get c.args.args.now i))
    c.is_fixed_with-in-Binary.result (fixed_with c.in-Binary.right (λ i. arg_fixed (slice_get c.args.args.now i))) c.in-Binary.is c.get-in-Binary.ensures refl c.is_fixed_with-in-Binary.ensures refl
