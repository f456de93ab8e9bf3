use Rattle.engine_tests.proofs.SamplesFit.{losing_fits}
use Rattle.engine_tests.proofs.tests.endings.script.Goals as goal

pub invariant_of-result : goal.invariant_of-result
invariant_of-result c = record {
  well_formed = losing_fits c.args.schema c.new.result c.new-2.result c.new-3.result c.new-4.result c.args.rules c.args.spawn c.args.removal
      c.requires.schema c.new.ensures c.new-2.ensures c.new-3.ensures c.new-4.ensures c.requires.rules c.requires.spawn c.requires.removal;
}
