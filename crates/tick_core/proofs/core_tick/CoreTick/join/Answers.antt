use Rattle.tick_core.proofs.Steps.{IsCore-joined}
use Rattle.tick_core.proofs.core_tick.CoreTick.join.Goals as goal

pub invariant_of-self-2 : goal.invariant_of-self-2
invariant_of-self-2 c =
    IsCore-joined _ c.self.invariant c.args.into c.args.from c.join_workers.new.workers.items (rw (← c.self.view_is) at c.requires.into) (rw (← c.self.view_is) at c.requires.from) c.requires.apart
    c.in_ok-join_workers.ensures.ok

pub returns-clause-fair : goal.returns-clause-fair
returns-clause-fair c = (invariant_of-self-2 c).fair
