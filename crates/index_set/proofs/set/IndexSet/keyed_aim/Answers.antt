use Rattle.std.proofs.Common.{sym}
use Rattle.sgl_evaluate.specs.Frame.{context_of}
use Rattle.sgl_evaluate.proofs.RightSides.{rights_fault, rights_numbers}
use Rattle.index_set.proofs.set.IndexSet.keyed_aim.Goals as goal

pub returns-in-Err-clause-aim : goal.returns-in-Err-clause-aim
returns-in-Err-clause-aim c = rights_fault (context_of c.args.frame.now) c.args.tests.now c.in-Err.fault (sym c.in-Err.ensures.fault)

pub returns-in_ok-key-in-Ok-clause-aim : goal.returns-in_ok-key-in-Ok-clause-aim
returns-in_ok-key-in-Ok-clause-aim c = record {
  sound = rights_numbers (context_of c.args.frame.now) c.args.tests.now (sym c.in-Ok.ensures.whole);
  rows = c.keyed_row-row.ensures.numbers;
  within = c.keyed_row-row.ensures.within;
}
