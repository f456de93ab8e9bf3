use Rattle.tick_core.proofs.Steps.{IsCore-claimed}
use Rattle.tick_core.proofs.core_tick.CoreTick.claim.Goals as goal

pub invariant_of-self-2 : goal.invariant_of-self-2
invariant_of-self-2 c =
    IsCore-claimed _ c.self.invariant c.args.worker c.note_deed.new.workers.items (rw (← c.self.view_is) at c.requires) c.if-self.false c.in_ok-note_deed.ensures.ok

pub returns-clause-fair : goal.returns-clause-fair
returns-clause-fair c = (invariant_of-self-2 c).fair
