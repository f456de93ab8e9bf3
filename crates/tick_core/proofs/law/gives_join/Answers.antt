use Rattle.tick_core.proofs.Standing.{gives-joined}
use Rattle.tick_core.proofs.law.gives_join.Goals as goal

pub returns : goal.returns
returns c = gives-joined
