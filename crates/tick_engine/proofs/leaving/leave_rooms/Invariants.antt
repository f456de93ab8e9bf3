use Rattle.tick_engine.specs.Leaving.{AreLeft}
use Rattle.tick_engine.proofs.leaving.leave_rooms.Given as goal

abbrev pub invariant-loop-at : goal.invariant-loop-at
invariant-loop-at l = AreLeft l.initial.workers.items l.workers.items
