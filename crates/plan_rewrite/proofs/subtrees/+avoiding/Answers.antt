use Rattle.std.proofs.Common.{refl, ap, sym, ◌∙◌}
use Rattle.std.specs.Prelude.{◌&&◌}
use Rattle.sgl_typed.specs.Reads.{reads_only}
use Rattle.battle_algebra.specs.Reads.{all_but}
use Rattle.plan_rewrite.proofs.Avoiding.{binary_avoids, list_more, list_stops}
use Rattle.plan_rewrite.proofs.subtrees.+avoiding.Goals as goal

pub expr_avoids-returns-then-expr_avoids : goal.expr_avoids-returns-then-expr_avoids
expr_avoids-returns-then-expr_avoids t c =
    ap (λ b. b && c.expr_avoids-then-expr_avoids.result) (sym c.if-expr_avoids.true)
    ∙ binary_avoids c.args.expr.now c.in-Binary.left c.in-Binary.right c.get-in-Binary.result.now c.get-then-expr_avoids.result.now c.in-Binary.op c.in-Binary.place (all_but c.args.slot)
    c.expr_avoids-in-Binary.result c.expr_avoids-then-expr_avoids.result c.in-Binary.is c.get-in-Binary.ensures c.get-then-expr_avoids.ensures c.expr_avoids-in-Binary.ensures c.expr_avoids-then-expr_avoids.ensures

pub expr_avoids-returns-else-expr_avoids : goal.expr_avoids-returns-else-expr_avoids
expr_avoids-returns-else-expr_avoids t c =
    c.if-expr_avoids.false ∙ ap (λ b. b && reads_only c.in-Binary.right (all_but c.args.slot)) (sym c.if-expr_avoids.false)
    ∙ binary_avoids c.args.expr.now c.in-Binary.left c.in-Binary.right c.get-in-Binary.result.now c.in-Binary.right c.in-Binary.op c.in-Binary.place (all_but c.args.slot)
    c.expr_avoids-in-Binary.result (reads_only c.in-Binary.right (all_but c.args.slot)) c.in-Binary.is c.get-in-Binary.ensures refl c.expr_avoids-in-Binary.ensures refl

pub exprs_avoid-returns-then-not-expr_avoids : goal.exprs_avoid-returns-then-not-expr_avoids
exprs_avoid-returns-then-not-expr_avoids t c =
    list_stops c.args.exprs.now c.loop-expr.expr-index c.expr-item.result (all_but c.args.slot) c.loop-expr-test.true c.expr-item.is (sym c.expr_avoids.ensures ∙ c.if-not-expr_avoids.true)

pub exprs_avoid-loop-expr-preserved : goal.exprs_avoid-loop-expr-preserved
exprs_avoid-loop-expr-preserved t c =
    list_more c.args.exprs.now c.loop-expr.expr-index c.expr-item.result (all_but c.args.slot) c.loop-expr-test.true c.expr-item.is c.loop-expr.invariant (sym c.expr_avoids.ensures ∙ c.if-not-expr_avoids.false)
