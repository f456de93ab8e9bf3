use Rattle.std.proofs.Common.{◌-◌, ◌≤◌}
use Rattle.extreme_sweep.specs.Sweeping.{IsAt}
use Rattle.extreme_sweep.proofs.sweeper.Sweeper.enter_before.Given as goal

abbrev pub invariant-loop-self : goal.invariant-loop-self
invariant-loop-self l = record {
  moves : IsAt l.layout l.self l.initial.self.from l.self.to;
  before : l.self.to ≤ l.to;
}

abbrev pub decreases-loop-self : goal.decreases-loop-self
decreases-loop-self l = l.to - l.self.to
