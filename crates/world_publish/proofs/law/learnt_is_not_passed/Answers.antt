-- What was learnt is not passed, by the lemma.
use Rattle.world_publish.proofs.Events.{learnt_is_not_passed}
use Rattle.world_publish.proofs.law.learnt_is_not_passed.Goals as goal

pub returns : goal.returns
returns c = learnt_is_not_passed
