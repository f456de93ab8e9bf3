use Rattle.tick_core.proofs.Workers.{claims-stand, workers-stand}
use Rattle.tick_core.proofs.law.workers_stand_for_all.Goals as goal

pub returns-clause-claims : goal.returns-clause-claims
returns-clause-claims c = claims-stand

pub returns-clause-workers : goal.returns-clause-workers
returns-clause-workers c = workers-stand
