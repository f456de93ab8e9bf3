use Rattle.battle_host.proofs.Starts.{sample_start}
use Rattle.battle_host.proofs.start.start_battle.Goals as goal

pub returns-in-Sample-clause-refused : goal.returns-in-Sample-clause-refused
returns-in-Sample-clause-refused g c =
    sample_start c.start_sample.result c.args.run.now.input c.in-Sample.count c.args.run.now.seed _ _ _ c.in-Sample.is c.start_sample.ensures.refused
