use Rattle.std.proofs.Common.{◌∙◌, ◌+◌, ap, map, subst, sym, take}
use Rattle.sgl_evaluate.specs.Frame.{context_of}
use Rattle.sgl_evaluate.specs.Rights.{right_of}
use Rattle.test_boxes.specs.declared.key.Values.{Values}
use Rattle.test_boxes.specs.Keys.{AreValues}
use Rattle.test_boxes.specs.Readings.{grouping}
use Rattle.test_boxes.proofs.Steps.{key_longer, key_same}
use Rattle.test_boxes.proofs.key.key_of.Goals as goal
use Rattle.test_boxes.proofs.key.key_of.Goals.{then-groups_by, else-groups_by}

pub loop-number-preserved : goal.loop-number-preserved
loop-number-preserved c =
    let right = right_of (context_of c.args.frame.now) in
    let tests = c.args.tests.now in
    let test = c.index-tests-number.result in
    let P : Values → Type 0 = λ values. AreValues values (map right (grouping c.args.how (take (c.loop-number.number + 1) tests))) in
    elim c.if-groups_by.branch [
      | then-groups_by w ↦ subst P (sym w.values-is)
          (key_longer c.args.how tests c.loop-number.number test c.loop-number-test.true c.index-tests-number.is right c.loop-number.values w.push.new.self w.at.result
          (sym w.if-groups_by.ensures) (w.at.ensures test ∙ ap right (sym c.index-tests-number.is)) c.loop-number.invariant w.push.ensures)
      | else-groups_by w ↦ subst P (sym w.values-is)
          (key_same c.args.how tests c.loop-number.number test c.loop-number-test.true c.index-tests-number.is right c.loop-number.values
          (sym w.if-groups_by.ensures) c.loop-number.invariant)
    ]
