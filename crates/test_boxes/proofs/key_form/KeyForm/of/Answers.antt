use Rattle.std.proofs.Common.{◌+◌, ◌++◌, ◌∷◌, [], arith, subst, sym, take, ◌∙◌}
use Rattle.std.proofs.lemmas.List.{get_or_default}
use Rattle.test_boxes.specs.Forms.{ArePicked}
use Rattle.test_boxes.specs.Readings.{grouping}
use Rattle.test_boxes.proofs.Steps.{grouping_longer, grouping_same, picked_weaker}
use Rattle.test_boxes.proofs.key_form.KeyForm.of.Goals as goal
use Rattle.test_boxes.proofs.key_form.KeyForm.of.Goals.{then-groups_by, else-groups_by}

pub loop-number-preserved : goal.loop-number-preserved
loop-number-preserved c =
    let how = c.args.how in
    let tests = c.args.tests.now in
    let i = c.loop-number.number in
    let test = c.index-tests-number.result in
    let inside = c.loop-number-test.true in
    let before = picked_weaker c.loop-number.form tests (grouping how (take i tests)) i c.loop-number.invariant (i + 1) (omega arith) in
    elim c.if-groups_by.branch [
      | then-groups_by w ↦
          subst (λ ts. ArePicked c.if-groups_by.form tests (i + 1) ts) (sym (grouping_longer how tests i test inside c.index-tests-number.is (sym w.if-groups_by.ensures)))
          (subst (λ form. ArePicked form tests (i + 1) (grouping how (take i tests) ++ test ∷ [])) (sym w.form-is)
          (w.push.ensures tests (grouping how (take i tests)) (i + 1) test (omega arith) (λ d. c.index-tests-number.is ∙ get_or_default tests i test d inside) before))
      | else-groups_by w ↦
          subst (λ ts. ArePicked c.if-groups_by.form tests (i + 1) ts) (sym (grouping_same how tests i test inside c.index-tests-number.is (sym w.if-groups_by.ensures)))
          (subst (λ form. ArePicked form tests (i + 1) (grouping how (take i tests))) (sym w.form-is) before)
    ]
