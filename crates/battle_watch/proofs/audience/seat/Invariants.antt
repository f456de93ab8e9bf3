use Rattle.std.proofs.Common.{◌≡◌, ◌+◌, length}
use Rattle.std.specs.Prelude.{All}
use Rattle.battle_watch.specs.Watching.{HasLooked}
use Rattle.battle_watch.proofs.audience.seat.Given as goal

abbrev pub invariant-loop-spectator : goal.invariant-loop-spectator
invariant-loop-spectator g l = record {
  counted : length l.seated.items + length l.spectators ≡ length l.fn.spectators;
  numbered : l.number ≡ length l.seated.items;
  fresh : All (HasLooked 0 (l.looks + 1)) l.seated.items;
}

abbrev pub decreases-loop-spectator : goal.decreases-loop-spectator
decreases-loop-spectator g l = length l.spectators
