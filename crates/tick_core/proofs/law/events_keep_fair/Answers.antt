use Rattle.tick_core.proofs.Keeping.{keeps-fair}
use Rattle.tick_core.proofs.law.events_keep_fair.Goals as goal

pub returns : goal.returns
returns c = keeps-fair
