use Rattle.std.proofs.Common.{◌≡◌, false, subst, sym, ap, ◌∙◌, IfNone, IfSome}
use Rattle.sgl_values.specs.World.{row_at}
use Rattle.sgl_values.specs.declared.fault.Val.TheVariants.{N}
use Rattle.sgl_values.specs.declared.operator.BinOp.TheVariants.{Add}
use Rattle.sgl_typed.specs.Value.{operated}
use Rattle.sgl_evaluate.specs.Forms.{at_once, form_value, gives_at_once}
use Rattle.sgl_evaluate.proofs.forms.number_by.Goals as goal

pub returns-in-Sum-clause-number : goal.returns-in-Sum-clause-number
returns-in-Sum-clause-number c =
    let place = c.in-Sum._place in
    let unit = row_at c.args.world.now.world c.args.unit in
    subst (λ v. IfSome c.operated.result (λ number. v ≡ N number))
    (ap (λ z. operated Add place (N z) (N c.in-Sum.number)) c.read.ensures.value ∙ ap (λ form. form_value form unit) (sym c.in-Sum.is))
    (c.operated.ensures.number place)

pub returns-in-Sum-clause-none : goal.returns-in-Sum-clause-none
returns-in-Sum-clause-none c =
    let place = c.in-Sum._place in
    let unit = row_at c.args.world.now.world c.args.unit in
    subst (λ gives. IfNone c.operated.result (gives ≡ false))
    (ap (λ z. at_once Add (operated Add place (N z) (N c.in-Sum.number))) c.read.ensures.value ∙ ap (gives_at_once unit) (sym c.in-Sum.is))
    (c.operated.ensures.none place)

pub returns-in-Shifted-clause-number : goal.returns-in-Shifted-clause-number
returns-in-Shifted-clause-number c =
    let place = c.in-Shifted._place in
    let unit = row_at c.args.world.now.world c.args.unit in
    subst (λ v. IfSome c.operated-in-Shifted.result (λ number. v ≡ N number))
    (ap (λ z. operated c.in-Shifted.op place (N z) (N c.in-Shifted.number)) c.attribute_of-in-Shifted.ensures ∙ ap (λ form. form_value form unit) (sym c.in-Shifted.is))
    (c.operated-in-Shifted.ensures.number place)

pub returns-in-Shifted-clause-none : goal.returns-in-Shifted-clause-none
returns-in-Shifted-clause-none c =
    let place = c.in-Shifted._place in
    let unit = row_at c.args.world.now.world c.args.unit in
    subst (λ gives. IfNone c.operated-in-Shifted.result (gives ≡ false))
    (ap (λ z. at_once c.in-Shifted.op (operated c.in-Shifted.op place (N z) (N c.in-Shifted.number))) c.attribute_of-in-Shifted.ensures ∙ ap (gives_at_once unit) (sym c.in-Shifted.is))
    (c.operated-in-Shifted.ensures.none place)
