use Rattle.std.proofs.Common.{◌&&◌, ◌∙◌, ap, pos, sym, take}
use Rattle.std.specs.List.{list_all}
use Rattle.sgl_values.specs.Range.{in_range}
use Rattle.sgl_values.specs.declared.operator.CmpOp.TheVariants.{Eq}
use Rattle.sgl_typed.specs.declared.script.Attr.TheVariants.{Key}
use Rattle.sgl_typed.specs.declared.script.TExpr.TheVariants.{Number}
use Rattle.sgl_typed.specs.declared.script.TTest.{TTest}
use Rattle.sgl_typed.specs.declared.script.TTest.TheVariants.{Compare}
use Rattle.sgl_evaluate.specs.Rights.{right_of}
use Rattle.test_boxes.specs.Forms.{passes_bound, passes_high, passes_low, passes_others}
use Rattle.test_boxes.proofs.Steps.{gather, without_more}
use Rattle.test_boxes.proofs.span_form.SpanForm.span.Goals as goal

pub returns : goal.returns
returns c = λ context tests axis form rights v.
    let right = right_of context in
    let self = c.args.self.now in
    let none : TTest = Compare Key Eq (Number (pos 0)) in
    c.narrowed.ensures context tests axis none v form rights
    ∙ ap (λ b. b && passes_others right tests none v self) (c.ends-ends.ensures context tests none v form.below rights)
    ∙ gather (in_range v) (passes_low right tests none v self.low) (passes_high right tests none v self.high) (passes_others right tests none v self)
    ∙ ap (λ b. in_range v && b) (form.same right none v)

pub returns-then-self-eq0 : goal.returns-then-self-eq0
returns-then-self-eq0 c = λ context tests axis form rights v.
    let right = right_of context in
    let self = c.args.self.now in
    let none : TTest = Compare Key Eq (Number (pos 0)) in
    let low = passes_low right tests none v self.low in
    let high = passes_high right tests none v self.high in
    c.ends-ends.ensures context tests none v form.below rights
    ∙ without_more (in_range v) low high
    ∙ ap (λ n. in_range v && (low && (high && list_all (passes_bound right tests none v) (take n self.others)))) (sym c.if-self-eq0.true)
    ∙ ap (λ b. in_range v && b) (form.same right none v)
