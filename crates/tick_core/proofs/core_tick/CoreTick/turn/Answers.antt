use Rattle.std.proofs.Common.{◌∙◌}
use Rattle.tick_core.proofs.Steps.{IsCore-turned, SameTable-turned, reset_is}
use Rattle.tick_core.proofs.core_tick.CoreTick.turn.Goals as goal

pub invariant_of-self : goal.invariant_of-self
invariant_of-self c =
    IsCore-turned _ c.self.invariant c.reset_words.new.words.items c.rest_all.new.workers.items (c.reset_words.ensures ∙ reset_is _ c.self.invariant _ c.as_slice.ensures.value) c.rest_all.ensures

pub returns-clause-fair : goal.returns-clause-fair
returns-clause-fair c = (invariant_of-self c).fair

pub returns-clause-table : goal.returns-clause-table
returns-clause-table c =
    rw (← c.self.view_is) (SameTable-turned _ c.self.invariant c.reset_words.new.words.items c.rest_all.new.workers.items (c.reset_words.ensures ∙ reset_is _ c.self.invariant _ c.as_slice.ensures.value))
