use Rattle.tick_core.proofs.Keeping.{starts-fair}
use Rattle.tick_core.proofs.law.starts_are_fair.Goals as goal

pub returns : goal.returns
returns c = starts-fair
