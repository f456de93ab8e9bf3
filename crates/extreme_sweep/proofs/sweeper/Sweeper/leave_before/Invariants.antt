use Rattle.std.proofs.Common.{◌-◌, ◌≤◌}
use Rattle.extreme_sweep.specs.Sweeping.{IsAt}
use Rattle.extreme_sweep.proofs.sweeper.Sweeper.leave_before.Given as goal

abbrev pub invariant-loop-self : goal.invariant-loop-self
invariant-loop-self l = record {
  moves : IsAt l.layout l.self l.self.from l.initial.self.to;
  before : l.self.from ≤ l.from;
}

abbrev pub decreases-loop-self : goal.decreases-loop-self
decreases-loop-self l = l.from - l.self.from
