use Rattle.std.proofs.Common.{◌≡◌, IfNone, pos, false, refl, subst, sym, ap}
use Rattle.sgl_typed.specs.Aggregate.{simple_value}
use Rattle.sgl_evaluate.specs.Forms.{has_form, is_acting}
use Rattle.sgl_values.specs.declared.fault.Val.TheVariants.{N}
use Rattle.sgl_evaluate.proofs.Forming.{operation_has}
use Rattle.sgl_evaluate.proofs.Steps.{binary}
use Rattle.sgl_evaluate.proofs.forms.form_of.Goals as goal

pub returns-in_ok-number-in-Binary-clause-form : goal.returns-in_ok-number-in-Binary-clause-form
returns-in_ok-number-in-Binary-clause-form c = λ context literals.
    sym (binary (λ agg args. N (pos 0)) context c.in-Binary.is c.get.ensures c.get-in-Binary.ensures (sym (ap (simple_value context) c.in_ok-attr-in-Binary.ensures.attr))
    (sym (c.in_ok-number-in-Binary.ensures.number context literals)) (c.operation_form.ensures context.unit))

pub returns-in_err-attr-in-Binary-clause-none : goal.returns-in_err-attr-in-Binary-clause-none
returns-in_err-attr-in-Binary-clause-none c =
    subst (λ o. IfNone o (has_form c.args.args.now c.args.expr.now ≡ false)) (sym c.from_residual.ensures)
    (operation_has c.args.args.now c.in-Binary.is c.get.ensures refl c.in_err-attr-in-Binary.ensures.none refl)

pub returns-in_err-number-in-Binary-clause-none : goal.returns-in_err-number-in-Binary-clause-none
returns-in_err-number-in-Binary-clause-none c =
    subst (λ o. IfNone o (has_form c.args.args.now c.args.expr.now ≡ false)) (sym c.from_residual-in_err-number-in-Binary.ensures)
    (operation_has c.args.args.now c.in-Binary.is c.get.ensures c.get-in-Binary.ensures (ap is_acting c.in_ok-attr-in-Binary.ensures.attr) c.in_err-number-in-Binary.ensures.none)
