use Rattle.std.proofs.Common.{◌≡◌, length, take}
use Rattle.world_publish.specs.Machine.{Leads, NoneFalls}
use Rattle.world_publish.proofs.stand_core.StandCore.play.Given as goal

abbrev pub invariant-loop-at : goal.invariant-loop-at
invariant-loop-at l = record {
  led : Leads l.fn.self (take l.at l.events) l.self;
  falls : NoneFalls l.fn.self l.self;
  spectators : length l.self.seen ≡ length l.fn.self.seen;
}
