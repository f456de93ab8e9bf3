use Rattle.std.proofs.Common.{◌<◌, ◌≡◌, ◌&&◌, ◌∙◌, length, take, ap, get_or, arith}
use Rattle.std.specs.List.{list_all}
use Rattle.std.proofs.lemmas.List.{get_or_default}
use Rattle.sgl_values.specs.declared.operator.CmpOp.TheVariants.{Eq}
use Rattle.test_boxes.specs.declared.span_form.Bound.{Bound}
use Rattle.sgl_evaluate.specs.Rights.{right_of}
use Rattle.test_boxes.specs.Forms.{passes_bound}
use Rattle.test_boxes.specs.Ranges.{holds}
use Rattle.test_boxes.proofs.Steps.{bound_more}
use Rattle.test_boxes.proofs.span_form.SpanForm.narrowed.Goals as goal

pub returns : goal.returns
returns c = λ context tests axis d v form rights.
    let self = c.args.self.now in
    let all : c.loop-place.place ≡ self.count = omega (arith, form.fits, c.loop-place.invariant.count, c.loop-place-test.false, c.min-place-end.ensures) in
    c.loop-place.invariant.so_far context tests axis d v form rights
    ∙ ap (λ n. holds c.args.ends v && list_all (passes_bound (right_of context) tests d v) (take n self.others)) all

pub loop-place-preserved : goal.loop-place-preserved
loop-place-preserved c =
    let i = c.loop-place.place in
    let others = c.args.self.now.others in
    record {
      count = omega (arith, c.loop-place-test.true, c.min-place-end.ensures);
      so_far = λ context tests axis d v form rights.
          let first : Bound = record { number = 0; op = Eq } in
          let within : i < length others = omega (arith, c.loop-place-test.true, c.min-place-end.ensures, c.type_inv.self) in
          let inside = form.below.others i first (omega (arith, c.loop-place-test.true, c.min-place-end.ensures)) in
          bound_more (right_of context) tests d others i (get_or others i first) c.one.result v (holds c.args.ends v) c.loop-place.span c.compared-span.result within (get_or_default others i first (get_or others i first) within)
          (c.one.ensures context tests d rights inside)
          (c.loop-place.invariant.so_far context tests axis d v form rights) (c.compared-span.ensures v);
    }
