use Rattle.plan_executor.proofs.Parting.{taken_rows, other_rows}
use Rattle.plan_executor.proofs.splitting.split_truths.Goals as goal

pub returns-clause-taken : goal.returns-clause-taken
returns-clause-taken c = λ value hold.
    taken_rows c.args.mask c.args.truths.now value hold c.requires c.true_rows.result c.lanes_in_both-taken.result c.true_rows.ensures c.lanes_in_both-taken.ensures

pub returns-clause-other : goal.returns-clause-other
returns-clause-other c = λ value hold.
    other_rows c.args.mask c.args.truths.now value hold c.requires c.lanes_in_both-taken.result c.lanes_without.result
    (taken_rows c.args.mask c.args.truths.now value hold c.requires c.true_rows.result c.lanes_in_both-taken.result c.true_rows.ensures c.lanes_in_both-taken.ensures)
    c.lanes_without.ensures
