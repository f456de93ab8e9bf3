use Rattle.plan_executor.proofs.Answering.{answered, built}
use Rattle.plan_executor.proofs.run.Run.answer_of.Goals as goal

pub returns : goal.returns
returns c = λ slots.
    answered c.args.self.now c.of.result c.requires.can c.of.ensures c.args.node c.args.row c.unit_row-unit.result slots c.answer_of.result c.unit_row-unit.ensures (c.answer_of.ensures slots)

pub answer_of-requires-clause-built : goal.answer_of-requires-clause-built
answer_of-requires-clause-built c = built c.args.self.now c.of.result c.requires.can c.of.ensures
