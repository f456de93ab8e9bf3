use Rattle.std.proofs.Common.{subst, sym}
use Rattle.extreme_sweep.specs.Sweeping.{IsSweeper}
use Rattle.extreme_sweep.proofs.sweeper.Sweeper.move_to.Goals as goal
use Rattle.extreme_sweep.proofs.sweeper.Sweeper.move_to.Goals.{then-from-self, else-from-self+else-to-self+else-self-from}

pub enter_before-requires-clause-sweeper : goal.enter_before-requires-clause-sweeper
enter_before-requires-clause-sweeper c = elim c.if-from-self.branch [
  | then-from-self w ↦ subst (IsSweeper c.args.layout.now) (sym w.self-is) w.restart.ensures.keeps
  | else-from-self+else-to-self+else-self-from w ↦ subst (IsSweeper c.args.layout.now) (sym w.self-is) c.requires.sweeper
]
