use Rattle.std.proofs.Common.{sym}
use Rattle.test_boxes.proofs.Steps.{attrs_before}
use Rattle.test_boxes.proofs.grouping.GroupingAttrs.of.Goals as goal

pub push-requires : goal.push-requires
push-requires c =
    attrs_before c.args.how c.args.tests.now c.loop-test.test-index c.test-item.result c.loop-test-test.true c.test-item.is c.loop-test.attrs (sym c.if-groups_by.ensures) c.requires c.loop-test.invariant
