use Rattle.tick_core.proofs.Orders.{gathered-once}
use Rattle.tick_core.proofs.law.each_task_once.Goals as goal

pub returns : goal.returns
returns c = gathered-once
