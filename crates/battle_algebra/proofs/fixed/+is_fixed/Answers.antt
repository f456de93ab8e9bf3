use Rattle.std.proofs.Common.{refl, ap, sym, ◌∙◌, false}
use Rattle.std.specs.Prelude.{◌&&◌}
use Rattle.battle_algebra.specs.Ways.{fixed_with}
use Rattle.battle_algebra.proofs.RightSides.{fixed_binary}
use Rattle.battle_algebra.proofs.fixed.+is_fixed.Goals as goal

pub returns-then-is_fixed : goal.returns-then-is_fixed
returns-then-is_fixed t c =
    ap (λ b. b && c.is_fixed-then-is_fixed.result) (sym c.if-is_fixed.true)
    ∙ fixed_binary c.args.expr.now c.in-Binary.left c.in-Binary.right c.get-in-Binary.result.now c.get-then-is_fixed.result.now c.in-Binary.op c.in-Binary.place (λ i. false)
    c.is_fixed-in-Binary.result c.is_fixed-then-is_fixed.result c.in-Binary.is c.get-in-Binary.ensures c.get-then-is_fixed.ensures c.is_fixed-in-Binary.ensures c.is_fixed-then-is_fixed.ensures

pub returns-else-is_fixed : goal.returns-else-is_fixed
returns-else-is_fixed t c =
    c.if-is_fixed.false ∙ ap (λ b. b && fixed_with c.in-Binary.right (λ i. false)) (sym c.if-is_fixed.false)
    ∙ fixed_binary c.args.expr.now c.in-Binary.left c.in-Binary.right c.get-in-Binary.result.now c.in-Binary.right c.in-Binary.op c.in-Binary.place (λ i. false)
    c.is_fixed-in-Binary.result (fixed_with c.in-Binary.right (λ i. false)) c.in-Binary.is c.get-in-Binary.ensures refl c.is_fixed-in-Binary.ensures refl
