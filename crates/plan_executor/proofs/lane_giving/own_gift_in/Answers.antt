use Rattle.std.proofs.Common.{[], ◌∷◌, ap, sym, ◌∙◌}
use Rattle.sgl_typed.specs.declared.script.Attr.TheVariants.{Key}
use Rattle.sgl_typed.specs.declared.script.TExpr.{TExpr}
use Rattle.sgl_typed.specs.declared.script.TTest.TheVariants.{Compare}
use Rattle.sgl_values.specs.declared.operator.CmpOp.TheVariants.{Eq}
use Rattle.plan_executor.proofs.lane_giving.own_gift_in.Goals as goal

pub own_gift-requires-clause-sole : goal.own_gift-requires-clause-sole
own_gift-requires-clause-sole c =
    sym c.as_slice.ensures ∙ c.in_ok-key.ensures.key ∙ ap (λ (right : TExpr). Compare Key Eq right ∷ []) (c.gives_own.ensures c.if-gives_own.true)
