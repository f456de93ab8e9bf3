-- The passed edges are none behind the place.
use Rattle.std.proofs.Common.{◌≤◌, ◌-◌, length, take}
use Rattle.std.specs.Prelude.{All}
use Rattle.area_effects.specs.Sweeping.{GoesOn}
use Rattle.area_effects.proofs.sweep.Sweep.advance.Given as goal

abbrev pub invariant-loop-self : goal.invariant-loop-self
invariant-loop-self l = record {
  goes_on : GoesOn l.initial.self l.self;
  passed : All (λ edge. edge.place ≤ l.place) (take l.self.next l.self.edges.items);
}

abbrev pub decreases-loop-self : goal.decreases-loop-self
decreases-loop-self l = length l.self.edges.items - l.self.next
