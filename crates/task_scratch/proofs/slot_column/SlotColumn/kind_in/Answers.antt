-- Where a set of rows is empty, it has none of them; where it is not, it has one.
use Rattle.std.proofs.Common.{refl, arith}
use Rattle.task_scratch.proofs.RowSets.{all_in_other, none_in_both}
use Rattle.task_scratch.proofs.Sorts.{sort_faulty, sort_mixed, sort_plain, sort_truths}
use Rattle.task_scratch.proofs.slot_column.SlotColumn.kind_in.Goals as goal

pub returns-then-lanes_in_both-eq0-clause-numbers : goal.returns-then-lanes_in_both-eq0-clause-numbers
returns-then-lanes_in_both-eq0-clause-numbers c is k below inside = (
  none_in_both _ _ _ k c.if-lanes_in_both-ne0.false (c.lanes_in_both.ensures k) inside,
  none_in_both _ _ _ k c.if-lanes_in_both-eq0.true (c.lanes_in_both-else-lanes_in_both-ne0.ensures k) inside,
)

pub returns-then-lanes_without-eq0-clause-truths : goal.returns-then-lanes_without-eq0-clause-truths
returns-then-lanes_without-eq0-clause-truths c is k below inside = (
  none_in_both _ _ _ k c.if-lanes_in_both-ne0.false (c.lanes_in_both.ensures k) inside,
  all_in_other _ _ _ k c.if-lanes_without-eq0.true (c.lanes_without.ensures k) inside,
)

pub returns-then-lanes_in_both-ne0-clause-known : goal.returns-then-lanes_in_both-ne0-clause-known
returns-then-lanes_in_both-ne0-clause-known c =
    sort_faulty c.args.self.now c.args.mask c.lanes_in_both.result c.if-lanes_in_both-ne0.true (omega arith) c.lanes_in_both.ensures

pub returns-then-lanes_in_both-eq0-clause-known : goal.returns-then-lanes_in_both-eq0-clause-known
returns-then-lanes_in_both-eq0-clause-known c =
    sort_plain c.args.self.now c.args.mask (returns-then-lanes_in_both-eq0-clause-numbers c refl)

pub returns-then-lanes_without-eq0-clause-known : goal.returns-then-lanes_without-eq0-clause-known
returns-then-lanes_without-eq0-clause-known c =
    sort_truths c.args.self.now c.args.mask c.lanes_in_both-else-lanes_in_both-ne0.result c.if-lanes_in_both-eq0.false (omega arith)
    c.lanes_in_both-else-lanes_in_both-ne0.ensures (returns-then-lanes_without-eq0-clause-truths c refl)

pub returns-else-lanes_without-eq0-clause-known : goal.returns-else-lanes_without-eq0-clause-known
returns-else-lanes_without-eq0-clause-known c =
    sort_mixed c.args.self.now c.args.mask c.lanes_in_both-else-lanes_in_both-ne0.result c.lanes_without.result c.if-lanes_in_both-eq0.false (omega arith)
    c.lanes_in_both-else-lanes_in_both-ne0.ensures c.if-lanes_without-eq0.false (omega arith) c.lanes_without.ensures
