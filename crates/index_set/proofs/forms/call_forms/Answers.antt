use Rattle.std.proofs.Common.{◌≡◌, ℕ, List, take, ap, subst, sym, ◌∙◌, arith}
use Rattle.std.proofs.lemmas.List.{take_min}
use Rattle.std.proofs.lemmas.Option.{same_Some}
use Rattle.sgl_typed.specs.declared.script.TAgg.{TAgg}
use Rattle.sgl_typed.specs.declared.script.TExpr.{TExpr}
use Rattle.sgl_typed.specs.declared.script.TTest.{TTest}
use Rattle.sgl_evaluate.specs.Forms.{HaveForms}
use Rattle.test_boxes.specs.Forms.{AreTestForms}
use Rattle.index_set.specs.Forms.{AreCallForms, HaveCallForms}
use Rattle.index_set.proofs.Telling.{none_weaker, some_weaker}
use Rattle.index_set.proofs.forms.call_forms.Goals as goal

pub returns-in-Some-clause-forms : goal.returns-in-Some-clause-forms
returns-in-Some-clause-forms c =
    let script = c.args.script.now in
    let call = c.args.call.now in
    let tests = c.as_slice-in-Some.result.now in
    let args : take c.min-count.result c.as_slice.result.now ≡ take 16 call.args =
    ap (take c.min-count.result) c.as_slice.ensures ∙ ap (λ (n : ℕ). take n call.args) (omega (arith, c.min-count.ensures, c.len.ensures)) ∙ take_min 16 call.args in
    some_weaker {P = λ forms. AreTestForms forms (take c.min-count.result c.as_slice.result.now) tests} {Q = AreCallForms script call} c.of.result
    (λ forms are agg is.
    subst (λ (found : TAgg). AreTestForms forms (take 16 call.args) found.tests) (same_Some c.in-Some.agg.now agg (c.in-Some.ensures ∙ is))
    (subst (λ (all : List TTest). AreTestForms forms (take 16 call.args) all) c.as_slice-in-Some.ensures (subst (λ (given : List TExpr). AreTestForms forms given tests) args are)))
    c.of.ensures.forms

pub returns-in-Some-clause-none : goal.returns-in-Some-clause-none
returns-in-Some-clause-none c =
    let call = c.args.call.now in
    let tests = c.as_slice-in-Some.result.now in
    let args : take 16 call.args ≡ take c.min-count.result c.as_slice.result.now =
    sym (ap (take c.min-count.result) c.as_slice.ensures ∙ ap (λ (n : ℕ). take n call.args) (omega (arith, c.min-count.ensures, c.len.ensures)) ∙ take_min 16 call.args) in
    none_weaker {P = HaveForms (take c.min-count.result c.as_slice.result.now) tests} {Q = HaveCallForms c.args.script.now call} c.of.result
    (λ have.
    subst (λ (given : List TExpr). HaveForms given tests) args
    (subst (λ (all : List TTest). HaveForms (take 16 call.args) all) (sym c.as_slice-in-Some.ensures)
    (subst (λ (found : TAgg). HaveForms (take 16 call.args) found.tests) (same_Some have.agg c.in-Some.agg.now (sym have.at ∙ sym c.in-Some.ensures)) have.have)))
    c.of.ensures.none
