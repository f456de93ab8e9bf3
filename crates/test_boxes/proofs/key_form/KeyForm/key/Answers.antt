use Rattle.std.proofs.Common.{◌≡◌, ◌<◌, ◌∙◌, pos, arith, ap, length, take}
use Rattle.std.specs.Prelude.{slice_set}
use Rattle.sgl_values.specs.declared.operator.CmpOp.TheVariants.{Eq}
use Rattle.sgl_typed.specs.declared.script.Attr.TheVariants.{Key}
use Rattle.sgl_typed.specs.declared.script.TExpr.TheVariants.{Number}
use Rattle.sgl_typed.specs.declared.script.TTest.{TTest}
use Rattle.sgl_typed.specs.declared.script.TTest.TheVariants.{Compare}
use Rattle.sgl_evaluate.specs.Rights.{right_of}
use Rattle.test_boxes.specs.Readings.{grouping}
use Rattle.test_boxes.proofs.Steps.{four_key, picked_at, picked_count, value_more}
use Rattle.test_boxes.proofs.key_form.KeyForm.key.Goals as goal

pub returns : goal.returns
returns c = λ context tests how form rights.
    let right = right_of context in
    let ts = grouping how tests in
    let count = picked_count c.args.self.now tests ts (length tests) form c.loop-place.invariant.size in
    let all : c.loop-place.place ≡ length (take 4 ts) = omega (arith, count, form.few, c.loop-place.invariant.count, c.loop-place-test.false, c.min-place-end.ensures) in
    c.loop-place.invariant.so_far context tests how form rights ∙ four_key right ts c.loop-place.place all

pub loop-place-preserved : goal.loop-place-preserved
loop-place-preserved c =
    let i = c.loop-place.place in
    record {
      size = c.loop-place.invariant.size;
      count = omega (arith, c.loop-place-test.true, c.min-place-end.ensures);
      so_far = λ context tests how form rights.
          let none : TTest = Compare Key Eq (Number (pos 0)) in
          let right = right_of context in
          let ts = grouping how tests in
          let count = picked_count c.args.self.now tests ts (length tests) form c.loop-place.invariant.size in
          let within : i < c.args.self.now.count = omega (arith, c.loop-place-test.true, c.min-place-end.ensures) in
          let value = c.one.ensures context tests none rights (form.below i 0 within)
          ∙ ap right (picked_at c.args.self.now tests ts (length tests) form i none c.loop-place.invariant.size within) in
          ap (λ key. slice_set key i c.one.result) (c.loop-place.invariant.so_far context tests how form rights)
          ∙ value_more right ts i c.one.result none (omega (arith, count, within)) (omega (arith, form.few, within)) value;
    }
