use Rattle.std.proofs.Common.{◌≡◌, ◌≤◌, replicate}
use Rattle.world_publish.proofs.opening.seat_spectators.Given as goal

abbrev pub invariant-loop : goal.invariant-loop
invariant-loop g l = (l.seated ≡ replicate l.counter 0) × (l.counter ≤ l.fn.count)
