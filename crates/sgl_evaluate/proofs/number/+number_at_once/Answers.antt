use Rattle.std.proofs.Common.{refl, sym, subst, ◌≡◌, IfSome}
use Rattle.sgl_values.specs.declared.fault.Val.TheVariants.{N}
use Rattle.sgl_evaluate.proofs.Steps.{binary}
use Rattle.sgl_evaluate.proofs.number.+number_at_once.Goals as goal

pub returns-in_ok-right-in-Binary : goal.returns-in_ok-right-in-Binary
returns-in_ok-right-in-Binary g t c calls =
    subst (λ v. IfSome c.operated.result (λ number. v ≡ N number))
    (binary calls (g.C.ExprContext.context c.args.context.now) c.in-Binary.is c.get.ensures c.get-in-Binary.ensures
    (sym (c.in_ok-left-in-Binary.ensures calls)) (sym (c.in_ok-right-in-Binary.ensures calls)) refl)
    (c.operated.ensures.number c.in-Binary.place)
